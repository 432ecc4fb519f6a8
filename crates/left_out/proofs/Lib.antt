-- Laws of the number, and of leaving out each word in turn.
pub mod WayLaws
mod TryLaws
