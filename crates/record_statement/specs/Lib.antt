pub mod Values
pub mod Step
