-- Laws of texts, and of an adjoint made in place.
pub mod BracketLaws
pub mod Induction
pub mod Counting
pub mod Fronts
pub mod Completeness
pub mod TreeLaws
pub mod MeaningLaws
pub mod Examples
pub mod TurnLaws
