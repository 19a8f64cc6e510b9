pub mod Calendar
pub mod Free
pub mod Claims
pub mod Cards
