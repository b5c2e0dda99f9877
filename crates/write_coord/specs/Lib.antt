pub mod Nodes
pub mod Begun
pub mod Tallies
