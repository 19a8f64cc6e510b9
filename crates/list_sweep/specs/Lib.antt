pub mod Sweep
pub mod Step
