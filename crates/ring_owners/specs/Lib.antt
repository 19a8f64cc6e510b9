pub mod Rung
pub mod Ranked
pub mod Step
pub mod Claims
pub mod Cards
