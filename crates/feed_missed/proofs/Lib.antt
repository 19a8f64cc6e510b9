pub mod Telling
pub mod Missing
