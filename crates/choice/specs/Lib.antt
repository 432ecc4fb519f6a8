-- How a fixed prefix is completed, what is gathered from rows, what the rows of a chosen string mean, and what the first choice asks and gives.
pub mod Completion
pub mod Sets
pub mod Grown
pub mod First
