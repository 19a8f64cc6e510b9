pub mod Lists
mod Arriving
mod Answering
