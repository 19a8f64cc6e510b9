pub mod FeedRecords
