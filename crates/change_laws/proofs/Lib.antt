pub mod Outranking
pub mod Contents
pub mod Slices
pub mod Purges
