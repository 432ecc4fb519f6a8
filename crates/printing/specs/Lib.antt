-- Rows of text, and what they are put from.
pub mod Text
pub mod Rows
pub mod Kept
