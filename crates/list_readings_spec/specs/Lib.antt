pub mod Lists
pub mod Claims
pub mod Examples
pub mod Answers
