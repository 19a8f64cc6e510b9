pub mod Found
pub mod Walks
pub mod Noting
