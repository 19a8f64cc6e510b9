pub mod Frames
pub mod Next
