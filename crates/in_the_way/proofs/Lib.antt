-- Theorems on the words in the way.
pub mod WayPromises
pub mod OneAnswer
pub mod StepLaws
pub mod Examples
pub mod Theorems
