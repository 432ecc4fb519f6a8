-- The table of a string: which of its stretches vanish.
pub mod Table
