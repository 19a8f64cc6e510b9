pub mod Meeting
pub mod Staying
pub mod Slips
pub mod Loads
