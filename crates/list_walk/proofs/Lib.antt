pub mod Walking
pub mod Counting
pub mod Beginning
