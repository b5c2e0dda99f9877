pub mod Circle
pub mod Entries
pub mod LeafSets
pub mod Members
pub mod Quorums
pub mod Rows
pub mod Slots
