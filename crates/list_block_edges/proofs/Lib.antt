mod Taking
pub mod Growing
