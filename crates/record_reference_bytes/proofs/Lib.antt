pub mod Fixed
pub mod Read
pub mod Written
