pub mod Numbers
pub mod Indexing
pub mod ColumnPlaces
pub mod Steps
pub mod Sizes
pub mod Order
pub mod Runs
