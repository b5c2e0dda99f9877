pub mod Headers
pub mod Frames
pub mod Holding
pub mod Uniqueness
pub mod Streams
pub mod Totality
