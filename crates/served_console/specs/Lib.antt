pub mod Answers
pub mod Asking
pub mod Nodes
pub mod Writing
pub mod Turns
pub mod Consoles
pub mod Jobs
