-- The recurrence that fills the chart's rows.
pub mod Recurrence
pub mod Filling
