pub mod NextFinals
pub mod Stretched
