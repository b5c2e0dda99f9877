pub mod Visits
pub mod Doorways
pub mod Works
pub mod Endings
