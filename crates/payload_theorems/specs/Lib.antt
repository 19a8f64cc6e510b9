pub mod Apart
pub mod Claims
