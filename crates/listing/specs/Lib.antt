-- The listing of an answer or a refusal.
pub mod Listing
pub mod ListingDemands
