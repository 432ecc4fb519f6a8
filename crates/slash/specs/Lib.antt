-- What the parsers ask and write.
pub mod Parsing
