pub mod Words
pub mod Tokens
pub mod Scanning
pub mod Laws
