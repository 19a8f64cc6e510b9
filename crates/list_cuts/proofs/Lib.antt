mod Cutting
pub mod Narrowing
mod Room
