pub mod Includes
