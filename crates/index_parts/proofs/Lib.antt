mod Passed
mod Held
