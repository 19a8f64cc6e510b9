pub mod Sorted
pub mod Claims
