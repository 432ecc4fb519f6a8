-- The letters of a listing, and what they say of a linking.
pub mod Letters
pub mod Lettered
