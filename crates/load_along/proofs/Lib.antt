pub mod Words
pub mod Fitting
pub mod Sweeping
pub mod Going
