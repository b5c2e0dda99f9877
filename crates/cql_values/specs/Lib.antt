pub mod Value
pub mod Protocol
pub mod Literals
pub mod Order
pub mod Scan
