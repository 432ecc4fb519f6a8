-- The laws of what is written into an answer: its first values, then the links, from the search for the nearest to the first linking, and the whole; and
-- those of its parts.
pub mod ValueLaws
pub mod LinkSearch
pub mod Nearest
pub mod Reducing
pub mod LinkSteps
pub mod LinkWriting
pub mod FirstLinked
pub mod WrittenLaws
pub mod GivenLaws
pub mod PartLaws
