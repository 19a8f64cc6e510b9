pub mod Feeds
pub mod Steps
