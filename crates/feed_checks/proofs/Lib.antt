pub mod Process
pub mod Feeds
