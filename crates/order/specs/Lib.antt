-- The order of a book: the closure of its pairs, and how many pairs it has.
pub mod Closed
pub mod Rows
