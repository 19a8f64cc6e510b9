pub mod Computing
mod Worked
pub mod Words
pub mod Rejecting
pub mod VotersIn
pub mod FinalsIn
pub mod CandidatesIn
pub mod ListsIn
pub mod Cutting
pub mod Records
pub mod Claimed
