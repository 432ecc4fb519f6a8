-- What reading a batch of lines comes to.
pub mod Batch
pub mod BatchDemands
