pub mod Rejecting
