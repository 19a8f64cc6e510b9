pub mod Order
pub mod Early
