pub mod Computing
mod ByHand
mod Worked
pub mod Ancestors
pub mod Votes
pub mod Spoken
pub mod Voters
pub mod Finals
pub mod Growing
pub mod Least
pub mod LeastOf
pub mod Candidates
pub mod FinalList
pub mod Asked
pub mod Fits
pub mod Certifying
pub mod Claimed
