pub mod Cuts
pub mod Room
