pub mod Commands
pub mod Endings
pub mod Heads
pub mod Reading
pub mod Serving
pub mod Runs
pub mod Replicas
