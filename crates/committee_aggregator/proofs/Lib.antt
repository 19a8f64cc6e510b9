pub mod Computing
pub mod Aggregators
pub mod Adding
pub mod Tallies
pub mod Crossing
mod Claimed
