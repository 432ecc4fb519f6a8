-- Laws on the lines of a batch.
pub mod LinesLaws
