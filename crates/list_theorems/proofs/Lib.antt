pub mod Asked
pub mod Reaching
