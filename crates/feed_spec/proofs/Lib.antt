pub mod Computing
mod Worked
pub mod Checks
pub mod ProcessBlock
pub mod Keeping
pub mod Events
pub mod View
