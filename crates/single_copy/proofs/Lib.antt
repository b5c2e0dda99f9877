pub mod Slots
pub mod SameMaps
pub mod ContentMaps
pub mod OneCopy
pub mod Example
