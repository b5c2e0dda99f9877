pub mod Orderings
pub mod Sorted
pub mod Signs
pub mod Places
pub mod Ranks
pub mod Partitions
pub mod Best
pub mod Lengths
