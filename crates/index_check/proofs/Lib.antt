pub mod Opening
pub mod Fits
pub mod Arriving
pub mod Agreeing
mod Next
