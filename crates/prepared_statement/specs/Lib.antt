pub mod Names
pub mod Changing
pub mod Slots
pub mod Faults
pub mod Orders
pub mod Structure
pub mod Prepared
pub mod Markers
