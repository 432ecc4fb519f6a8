pub mod Placing
pub mod Decimals
pub mod Examples
