-- Cases of numbers and tests; the laws of bits, of sums, of counted members, of rows, of what is gathered in them and of the members that pass a test, for
-- the crates above.
pub mod Cases
pub mod BitLaws
pub mod Trailing
pub mod TotalLaws
pub mod CountLaws
pub mod RowLaws
pub mod Gathering
pub mod MemberWalks
pub mod Testing
