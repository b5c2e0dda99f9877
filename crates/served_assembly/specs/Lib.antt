pub mod Assembling
pub mod Parting
pub mod Linking
