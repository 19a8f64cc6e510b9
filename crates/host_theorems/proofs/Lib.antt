mod Fitting
mod Running
mod Calls
mod Lists
mod Claimed
