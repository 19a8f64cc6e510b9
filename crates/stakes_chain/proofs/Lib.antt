pub mod Chains
mod Claimed
mod Walk
