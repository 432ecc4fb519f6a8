-- The closure's laws, the test that decides it, the walk that computes it and the count of its pairs.
pub mod ClosureLaws
pub mod Decision
pub mod Walk
pub mod Filling
pub mod Counting
pub mod PairCount
pub mod Examples
