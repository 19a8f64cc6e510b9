pub mod Rejecting
pub mod Readings
pub mod Withdrawing
pub mod Finality
pub mod NextFinal
pub mod Claims
pub mod Examples
pub mod Answers
