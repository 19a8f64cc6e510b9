pub mod Joined
pub mod Ranges
pub mod Answers
