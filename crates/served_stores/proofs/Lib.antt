mod Lists
pub mod Taking
pub mod Backing
mod Losing
