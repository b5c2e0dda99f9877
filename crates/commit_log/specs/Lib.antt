pub mod Errors
pub mod Format
pub mod Place
