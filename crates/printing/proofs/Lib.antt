pub mod Fields
pub mod RowLaws
