-- Laws that the proofs of several functions cite.
pub mod Bools
pub mod NameFronts
pub mod NameLaws
pub mod RecordLaws
