-- Laws that the proofs of several functions cite.
pub mod KeyLaws
pub mod EntryLaws
pub mod ThreadLaws
pub mod FindLaws
pub mod ExactLaws
