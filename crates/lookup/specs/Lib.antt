-- A word's entries, how the entries of a book are threaded for the look-up, and books that spell their words in other letters.
pub mod Entries
pub mod Found
pub mod Threads
pub mod Respelt
pub mod Walks
