pub mod Timed
pub mod Merging
pub mod Merged
