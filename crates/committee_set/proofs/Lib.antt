pub mod Computing
pub mod Bits
pub mod Votes
pub mod Stakes
pub mod Quorums
pub mod Words
pub mod Counts
pub mod Sums
pub mod Members
mod Claimed
