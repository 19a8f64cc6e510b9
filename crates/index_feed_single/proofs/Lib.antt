pub mod Growing
pub mod Giving
