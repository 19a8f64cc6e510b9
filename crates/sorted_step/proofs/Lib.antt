mod Runs
mod Standing
mod Cursors
pub mod Words
mod Merging
mod Merges
