pub mod Inserted
pub mod Standing
pub mod Moving
pub mod Knowing
