pub mod Places
pub mod Step
