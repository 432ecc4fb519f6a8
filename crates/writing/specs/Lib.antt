-- How bytes are put into a lent buffer, and a number as a decimal.
pub mod Placed
pub mod Decimal
