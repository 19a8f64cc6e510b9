pub mod Computing
pub mod Loaded
pub mod Claimed
mod Evaluated
mod Fills
pub mod Front
