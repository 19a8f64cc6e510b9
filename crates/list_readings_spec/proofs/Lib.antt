pub mod Between
pub mod Least
pub mod Old
pub mod Whole
pub mod Orders
pub mod Claimed
pub mod Computing
pub mod Worked
