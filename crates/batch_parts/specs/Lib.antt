-- The parts of a batch's answers.
pub mod Parts
pub mod Stored
