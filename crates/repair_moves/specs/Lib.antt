pub mod Ranges
pub mod Replicas
pub mod Snapshots
pub mod Merges
pub mod Repairs
pub mod Stories
pub mod Laws
pub mod Worked
