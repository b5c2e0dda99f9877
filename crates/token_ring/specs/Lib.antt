pub mod Murmur
pub mod Placement
pub mod Refusals
pub mod Tokens
