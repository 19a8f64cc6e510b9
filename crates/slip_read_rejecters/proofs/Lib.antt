pub mod Rejecters
