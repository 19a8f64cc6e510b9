pub mod Steps
pub mod Feeds
