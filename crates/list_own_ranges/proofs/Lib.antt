mod Stored
mod Rows
pub mod Said
