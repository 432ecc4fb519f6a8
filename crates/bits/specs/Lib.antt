-- Sets of small numbers in one word and in rows of words, what is gathered in a row, what a test finds in one, and sums.
pub mod Totals
pub mod Bits
pub mod Rows
pub mod Gathered
pub mod Tested
