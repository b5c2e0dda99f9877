pub mod Keys
pub mod Values
pub mod Fronts
pub mod Prints
pub mod Plain
pub mod Texts
pub mod Lines
pub mod Laws
