pub mod Lanes
mod Showing
