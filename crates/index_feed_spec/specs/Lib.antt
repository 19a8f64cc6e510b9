pub mod IndexedFeed
pub mod Claims
