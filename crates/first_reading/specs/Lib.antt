-- What the first reading of words that are charted comes to.
pub mod Reached
