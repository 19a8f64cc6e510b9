pub mod Asked
pub mod Claimed
