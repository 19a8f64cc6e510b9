mod Blocks
mod Checks
mod Feeds
mod Questions
mod Written
mod Claimed
