mod Parts
mod Reading
mod Listing
mod Feeding
mod Counts
mod Whole
