pub mod Load
pub mod Answers
pub mod Claims
pub mod Examples
