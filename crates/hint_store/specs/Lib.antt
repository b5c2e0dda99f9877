pub mod Staged
pub mod Expiry
pub mod Tables
pub mod Tallies
pub mod Stores
pub mod Laws
