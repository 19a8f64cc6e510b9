pub mod Asking
pub mod Claimed
