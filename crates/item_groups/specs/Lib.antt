pub mod Groups
pub mod Zips
