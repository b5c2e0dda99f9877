mod Keys
mod Places
mod Indexing
mod Runs
mod Firsts
mod Ages
mod Staging
mod Keeping
mod Removing
mod Numbers
pub mod Same
