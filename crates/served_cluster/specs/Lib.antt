pub mod Ends
pub mod Kinds
pub mod Served
pub mod Giving
pub mod Serving
