pub mod Tellings
pub mod Outcomes
pub mod Headings
pub mod Desks
pub mod Calls
