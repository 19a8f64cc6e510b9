pub mod Add
pub mod Claims
