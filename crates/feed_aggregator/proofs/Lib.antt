pub mod Counting
pub mod Runs
pub mod Process
