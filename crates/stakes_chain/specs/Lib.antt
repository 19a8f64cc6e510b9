pub mod Layout
pub mod Chain
pub mod Answers
pub mod Claims
