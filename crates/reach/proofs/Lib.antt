-- The graph of words that are looked up, and the first target that it reaches.
pub mod DrawnLaws
pub mod Reached
