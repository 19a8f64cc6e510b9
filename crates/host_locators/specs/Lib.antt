pub mod Locators
