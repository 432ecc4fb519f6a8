-- Laws of capitals and small letters, byte by byte and eight bytes at a time.
pub mod CapitalLaws
pub mod EightLaws
pub mod LetterLaws
