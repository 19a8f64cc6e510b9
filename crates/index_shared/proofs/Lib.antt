mod Chains
mod Named
pub mod Passing
