pub mod Reduced
pub mod Stated
