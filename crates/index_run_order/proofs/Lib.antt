mod Order
pub mod Apart
