pub mod Indexed
pub mod Claims
