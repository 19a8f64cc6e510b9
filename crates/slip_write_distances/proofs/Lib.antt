pub mod Folding
pub mod Reading
