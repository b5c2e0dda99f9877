pub mod ByteStrings
pub mod Faults
pub mod LeafBits
pub mod Leaves
pub mod Levels
pub mod Quorums
pub mod Requests
pub mod Ring
