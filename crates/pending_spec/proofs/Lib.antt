pub mod Computing
mod Worked
pub mod Items
pub mod Table
pub mod Order
