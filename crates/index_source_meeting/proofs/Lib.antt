mod One
pub mod Together
mod Moving
