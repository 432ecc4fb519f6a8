-- The laws of the string's stretches, and of the table.
pub mod Stretches
pub mod TableLaws
