pub mod Speeches
