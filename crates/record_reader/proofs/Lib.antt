pub mod Formed
pub mod Shape
