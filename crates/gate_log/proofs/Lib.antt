mod Clearing
mod Crash
mod Ends
mod Moves
mod Readings
mod Spellings
