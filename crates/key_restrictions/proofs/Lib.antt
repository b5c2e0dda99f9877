pub mod Keys
pub mod Lookups
pub mod Columns
pub mod Signs
pub mod Fronts
pub mod Enclosure
