-- What the chart's rows hold.
pub mod Chart
