pub mod Draft
pub mod Joining
pub mod Writing
pub mod Claims
pub mod Examples
