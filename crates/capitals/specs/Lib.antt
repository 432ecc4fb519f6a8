-- When two words are the same.
pub mod Capitals
pub mod Letters
