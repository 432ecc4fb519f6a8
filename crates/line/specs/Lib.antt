-- A line: its words, what it is refused for before it is read (11 to 14), and its words' entries.
pub mod LineWords
pub mod LineFaults
pub mod Split
pub mod LookUp
pub mod Passing
pub mod FoundWords
pub mod Promise
pub mod Remaining
