mod Accepting
mod Events
mod Engine
mod Claimed
