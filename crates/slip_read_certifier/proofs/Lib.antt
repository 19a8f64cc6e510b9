pub mod Joining
pub mod Standing
pub mod Certifying
pub mod Showing
