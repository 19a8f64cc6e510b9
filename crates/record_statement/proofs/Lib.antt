pub mod Steps
pub mod Only
