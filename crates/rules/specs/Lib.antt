-- One record of a book: the kinds of records and the layout of an entry's body, the rules with their numbers, and which of them a text breaks.
pub mod Layouts
pub mod Rules
pub mod TextRules
