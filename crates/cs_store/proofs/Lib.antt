mod Calls
pub mod Crashes
mod MemLemmas
mod Pasts
