pub mod Ranges
pub mod Digests
pub mod Hashing
pub mod Laws
