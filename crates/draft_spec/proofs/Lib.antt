pub mod Computing
pub mod Joining
pub mod Joined
pub mod Given
pub mod Written
pub mod Claimed
pub mod Examples
