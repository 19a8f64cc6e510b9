pub mod Reading
pub mod Sorting
pub mod Along
