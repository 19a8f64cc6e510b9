pub mod Halving
pub mod Listing
