pub mod Statements
pub mod Holding
pub mod Running
pub mod Listings
