pub mod References
pub mod Words
