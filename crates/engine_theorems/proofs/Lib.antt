mod Stored
pub mod Others
mod Orders
mod Events
