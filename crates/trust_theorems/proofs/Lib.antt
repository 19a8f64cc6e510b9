pub mod Meeting
pub mod Naming
pub mod Growing
pub mod Staying
pub mod Slips
pub mod Loads
