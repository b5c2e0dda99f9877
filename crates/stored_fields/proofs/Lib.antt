pub mod Words
pub mod Spelled
pub mod Lists
pub mod Laws
