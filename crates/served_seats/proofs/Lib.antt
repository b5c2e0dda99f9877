mod Handed
mod Joined
pub mod Seated
mod Turns
