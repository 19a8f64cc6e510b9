mod Moving
pub mod Spots
