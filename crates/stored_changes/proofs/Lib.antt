pub mod Loop
pub mod Order
pub mod Words
pub mod Spelled
pub mod Lengths
mod Written
