pub mod Tests
pub mod Parts
pub mod Settled
pub mod Ranges
pub mod Walks
