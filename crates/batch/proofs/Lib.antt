-- Theorems on what reading a batch comes to.
pub mod BatchPromises
pub mod BatchLaws
pub mod Examples
pub mod Theorems
