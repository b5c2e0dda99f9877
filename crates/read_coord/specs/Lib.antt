pub mod Merges
pub mod Keeping
