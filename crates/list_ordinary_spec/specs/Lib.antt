pub mod Shares
pub mod FinalShares
pub mod Ordinary
pub mod Claims
