pub mod Verdicts
pub mod Votes
