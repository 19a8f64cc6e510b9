pub mod IndexedFeed
