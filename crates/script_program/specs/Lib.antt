pub mod Endings
pub mod Requests
pub mod Lines
pub mod Runs
pub mod Stops
pub mod Streams
