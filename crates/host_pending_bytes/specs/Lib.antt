pub mod Pending
pub mod Claims
