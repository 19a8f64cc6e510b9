pub mod Halves
pub mod Finds
