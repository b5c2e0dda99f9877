pub mod Lines
pub mod Laws
pub mod Reads
pub mod Script
pub mod Written
