-- The theorems on completion and on the first choice; then what is needed by places, and the laws of rows that meet, of the search for a slot, of the
-- rows that grow with the chosen string, and of the walk that chooses.
pub mod Completion
pub mod Choices
pub mod Needed
pub mod Meeting
pub mod Searching
pub mod Grown
pub mod Choosing
