-- Types written with slashes: the grammar and its meaning, the depth of brackets, a text's tree as it is computed, and a type at places of a list.
pub mod Grammar
pub mod Brackets
pub mod Trees
pub mod Places
