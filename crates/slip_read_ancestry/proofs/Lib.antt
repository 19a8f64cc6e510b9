pub mod Places
pub mod Lost
