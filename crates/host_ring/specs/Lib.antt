pub mod Ring
pub mod Step
