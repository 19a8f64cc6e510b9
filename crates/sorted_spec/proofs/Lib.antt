pub mod Replies
pub mod Claimed
pub mod Computing
pub mod Cards
