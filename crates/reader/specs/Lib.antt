-- What reading a line against a book comes to.
pub mod Outcome
pub mod Demands
