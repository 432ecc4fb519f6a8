-- What the code writes for the words of a line and the targets.
pub mod LineLayout
