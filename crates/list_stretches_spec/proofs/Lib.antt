pub mod Nearest
pub mod Ends
pub mod Spreading
pub mod Wide
pub mod Claimed
