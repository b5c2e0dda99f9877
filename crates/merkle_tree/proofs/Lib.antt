mod Places
pub mod Differences
mod Feeding
pub mod Hashed
