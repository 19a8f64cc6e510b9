pub mod Claims
pub mod Fed
