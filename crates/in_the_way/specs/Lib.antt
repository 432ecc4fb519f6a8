-- Which words are in the way of a line without a reading.
pub mod Way
pub mod WayDemands
