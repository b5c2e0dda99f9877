mod Appended
mod Loading
pub mod Readings
mod Refusals
mod Spellings
