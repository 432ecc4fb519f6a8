-- Laws on a line's part, and on the parts one behind another.
pub mod PartLaws
pub mod StoreLaws
