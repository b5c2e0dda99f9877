pub mod Histories
pub mod Orders
pub mod Restarts
pub mod Ahead
pub mod Merged
pub mod Laws
