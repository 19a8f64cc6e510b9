pub mod Finality
pub mod Claims
