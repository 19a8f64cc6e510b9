pub mod Order
pub mod Claimed
