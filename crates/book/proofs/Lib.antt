-- Laws that the proofs of several functions cite.
pub mod RaiseLaws
pub mod HeldTypes
pub mod EntryTypes
pub mod FirstBroken
pub mod GoodEntries
pub mod Parsing
pub mod Keeping
pub mod Scanning
pub mod Checking
pub mod Accepted
pub mod Promises
pub mod TargetAdded
pub mod Notation
pub mod PaperBooks
pub mod Examples
