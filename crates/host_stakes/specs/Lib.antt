pub mod LoadStakes
