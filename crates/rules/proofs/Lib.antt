-- Laws that the proofs of several functions cite.
pub mod Bools
pub mod Layouts
pub mod KindLaws
pub mod EntryLaws
pub mod Simples
pub mod HeldDeclared
pub mod Faults
pub mod Texts
pub mod WholeRecords
pub mod NoFault
pub mod Slashed
pub mod TextRules
