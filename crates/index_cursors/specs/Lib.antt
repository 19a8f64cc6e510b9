pub mod Cursors
pub mod Spots
