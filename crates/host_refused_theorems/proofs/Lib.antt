mod Feeds
mod Lists
