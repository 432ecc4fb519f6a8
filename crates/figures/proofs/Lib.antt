-- Laws about the causes of refusals.
pub mod Causes
