pub mod Source
pub mod Met
