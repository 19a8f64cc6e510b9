pub mod Offsets
pub mod Entries
pub mod Checked
pub mod Lending
