pub mod Indexed
pub mod Statement
