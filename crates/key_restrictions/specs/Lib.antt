pub mod Operators
pub mod Places
pub mod Checks
pub mod Rows
pub mod Laws
