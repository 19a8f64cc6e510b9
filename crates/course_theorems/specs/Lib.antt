pub mod Course
pub mod Exclusions
pub mod Witnesses
