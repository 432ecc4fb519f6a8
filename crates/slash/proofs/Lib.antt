-- Laws of what the parsers write.
pub mod PlaceLaws
pub mod ParserLaws
pub mod Composing
pub mod NamesRead
pub mod TextRead
