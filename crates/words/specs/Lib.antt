-- What reading words that are looked up comes to.
pub mod Readings
