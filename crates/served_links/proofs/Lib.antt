mod Growing
pub mod Linked
mod Meeting
mod Numbers
mod Places
mod Rows
