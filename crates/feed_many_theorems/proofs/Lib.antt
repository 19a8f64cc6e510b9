pub mod Framed
mod Appended
mod AnyEvents
mod Claimed
pub mod Fed
