mod Positions
pub mod Sharing
mod Next
