pub mod NextFinal
pub mod Stretches
