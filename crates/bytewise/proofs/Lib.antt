-- Laws that the proofs of several functions cite.
pub mod Comparing
pub mod Searching
