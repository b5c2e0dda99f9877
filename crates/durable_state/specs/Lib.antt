pub mod Partitions
pub mod State
pub mod Taking
pub mod Keeping
pub mod Laws
