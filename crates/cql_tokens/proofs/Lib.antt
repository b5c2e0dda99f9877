pub mod Edges
pub mod Fronts
pub mod Longest
pub mod Loops
pub mod Printing
pub mod Runs
pub mod Scans
pub mod Steps
