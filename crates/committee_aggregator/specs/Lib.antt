pub mod StakeAggregator
pub mod Answers
pub mod Claims
