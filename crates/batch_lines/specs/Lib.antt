-- The lines of a batch.
pub mod Lines
pub mod Counts
