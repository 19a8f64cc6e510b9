pub mod Checked
pub mod Frames
pub mod Moves
pub mod Sorting
