pub mod CallChains
mod DeskLaws
mod AtLock
pub mod LinkTakes
mod Workings
mod ToldLaws
