pub mod Numbers
pub mod Growing
pub mod Walk
pub mod Calls
pub mod Work
pub mod Claimed
