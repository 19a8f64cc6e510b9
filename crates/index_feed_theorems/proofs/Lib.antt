pub mod Parted
pub mod Joined
pub mod Fed
