pub mod Verdict
pub mod Step
