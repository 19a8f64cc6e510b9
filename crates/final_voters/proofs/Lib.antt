pub mod Remembering
pub mod Visiting
pub mod Halves
