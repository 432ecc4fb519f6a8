-- Linkings of a type, the greedy one among them, and the readings of a line, whose entry numbers ascend.
pub mod Linking
pub mod Greedy
pub mod Reading
pub mod Ascending
