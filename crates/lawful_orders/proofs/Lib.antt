pub mod Places
pub mod Orders
mod Running
mod Restarting
mod Before
pub mod Times
mod Ticks
mod Sorting
mod Merging
mod OneOrder
