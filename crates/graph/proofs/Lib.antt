-- The parts of nodes, and what stands for a target.
pub mod PartLaws
pub mod TargetLaws
