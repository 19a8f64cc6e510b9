pub mod VoteAnswer
pub mod Answers
