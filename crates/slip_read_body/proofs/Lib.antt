pub mod Joining
pub mod Certifying
pub mod Gathering
