-- The graph of a line, and the words of a line laid out as one.
pub mod Graph
pub mod Layout
