pub mod Asked
pub mod Step
