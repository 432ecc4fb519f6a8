-- A book: what any bytes are as one, what the book check answers and promises, books that differ only in notation, and what the code keeps.
pub mod Format
pub mod Notation
pub mod Kept
pub mod Check
