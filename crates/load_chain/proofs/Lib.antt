pub mod Chains
pub mod Looking
