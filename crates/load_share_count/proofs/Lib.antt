pub mod Through
pub mod Statements
