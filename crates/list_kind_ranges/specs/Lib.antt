pub mod Kinds
pub mod Next
