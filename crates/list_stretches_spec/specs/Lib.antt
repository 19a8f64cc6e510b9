pub mod Stretches
pub mod Bulk
pub mod Claims
