pub mod Texts
pub mod Loop
pub mod Words
pub mod Spelled
pub mod Respelled
