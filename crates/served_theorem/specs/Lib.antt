pub mod Left
pub mod Runs
pub mod Visits
pub mod Laws
