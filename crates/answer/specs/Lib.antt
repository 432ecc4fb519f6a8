-- What reading answers, the values of an answer and their parts, the first linking as it is written, and what the writing of the whole asks and gives.
pub mod Answers
pub mod Parts
pub mod Entries
pub mod Links
pub mod Written
