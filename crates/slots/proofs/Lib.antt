-- Laws of types and entries as they are laid.
pub mod HeldTypes
pub mod TypeLaws
pub mod EntryLaws
