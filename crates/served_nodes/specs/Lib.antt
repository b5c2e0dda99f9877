pub mod Jobs
pub mod Nodes
