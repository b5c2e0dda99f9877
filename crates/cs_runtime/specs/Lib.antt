pub mod Begun
pub mod Jobs
