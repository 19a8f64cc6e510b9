mod Covering
pub mod Beginning
