pub mod Computing
mod Worked
pub mod References
pub mod Ranges
pub mod Runs
pub mod Spans
pub mod Records
pub mod Places
pub mod Claimed
