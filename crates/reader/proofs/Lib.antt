-- Theorems on what reading a line comes to.
pub mod Table
pub mod Refusals
pub mod Promises
pub mod Unread
pub mod SeveralTargets
pub mod TargetCases
pub mod Ample
pub mod Capitals
pub mod Spellings
pub mod Notations
pub mod Given
pub mod Theorems
