pub mod Numbered
pub mod ByNumber
pub mod Places
pub mod Ranges
pub mod Repeats
pub mod Rings
pub mod Vectors
