pub mod Runs
pub mod Part
pub mod Index
pub mod Certified
pub mod Claims
pub mod Walk
