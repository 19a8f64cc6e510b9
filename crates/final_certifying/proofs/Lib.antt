pub mod Finding
pub mod Certifying
pub mod Finals
