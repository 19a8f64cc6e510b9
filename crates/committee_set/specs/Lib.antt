pub mod AuthoritySet
pub mod Claims
