pub mod Kept
pub mod Same
pub mod Entries
mod Deciding
pub mod Making
pub mod Together
