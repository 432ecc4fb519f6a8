-- Laws on the first reading of words that are charted.
pub mod Selection
pub mod Brief
pub mod FirstFound
pub mod ReadingLaws
