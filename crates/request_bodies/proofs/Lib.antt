pub mod Skipping
pub mod Words
pub mod Flags
pub mod Spelled
pub mod Respelled
