pub mod Given
pub mod Runs
