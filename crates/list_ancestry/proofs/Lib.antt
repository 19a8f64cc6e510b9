pub mod Marking
pub mod Spreading
