-- The paper's figures: limits, and the numbers of the refusals.
pub mod Limits
pub mod Refusals
