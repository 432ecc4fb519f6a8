-- Laws that the proofs of several functions cite.
pub mod WordLaws
pub mod SplitLaws
pub mod LineLaws
pub mod Passed
pub mod Offsets
pub mod SmallLines
pub mod SmallBooks
pub mod PromiseLaws
pub mod ByWords
pub mod Remaining
