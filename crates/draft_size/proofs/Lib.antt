pub mod Measuring
pub mod Sizing
