pub mod Finding
pub mod Kept
pub mod Lengths
pub mod Merges
pub mod Calls
