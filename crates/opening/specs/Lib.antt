-- What opening a book gives.
pub mod Open
