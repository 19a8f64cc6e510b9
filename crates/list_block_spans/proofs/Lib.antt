pub mod Joining
pub mod Rejecting
pub mod Fits
