pub mod Refusals
pub mod Step
