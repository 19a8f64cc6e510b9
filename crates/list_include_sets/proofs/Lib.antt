pub mod Within
pub mod Noting
pub mod Gathering
