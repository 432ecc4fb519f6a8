-- Theorems on linkings and readings.
pub mod Numbers
pub mod Stretches
pub mod Linked
pub mod Positions
pub mod Reduction
pub mod Comparison
pub mod Greedy
pub mod FirstLinking
pub mod FirstReading
pub mod Targets
pub mod Derivation
