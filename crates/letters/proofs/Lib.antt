-- Laws of the letters, what they say of a linking, and the letters at work.
pub mod LetterLaws
pub mod LetterTheorems
pub mod Examples
