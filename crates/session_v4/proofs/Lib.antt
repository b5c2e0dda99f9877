mod GivenLaws
pub mod CellLaws
mod EntryLaws
pub mod PageStarts
pub mod PageRuns
mod Moves
mod Comings
pub mod Staying
