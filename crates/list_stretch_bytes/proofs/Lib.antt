pub mod Stretch
pub mod Filling
