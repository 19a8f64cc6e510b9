pub mod Names
mod Steps
