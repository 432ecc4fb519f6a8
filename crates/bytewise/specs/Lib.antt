-- The numbers that bytes are compared by, and the first number of a kind.
pub mod Compare
pub mod First
