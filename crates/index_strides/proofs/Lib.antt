pub mod Unfolded
pub mod Stepping
pub mod Striding
pub mod Words
pub mod Writing
