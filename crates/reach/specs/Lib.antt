-- What the chart of words says.
pub mod Charted
