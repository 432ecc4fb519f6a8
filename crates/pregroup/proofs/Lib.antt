-- The theorems of the pregroup calculus, in the order in which they are read.
pub mod Exponents
pub mod Preorder
pub mod Machine
pub mod VanishLaws
pub mod Adjoints
pub mod Chains
pub mod General
pub mod Switching
pub mod Declared
pub mod Decision
pub mod LinkKinds
pub mod Examples
pub mod HeldLaws
