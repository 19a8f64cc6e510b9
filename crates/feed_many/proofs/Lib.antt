pub mod Feeding
pub mod Telling
pub mod Outcomes
pub mod Walk
pub mod Work
pub mod Calls
