mod Doors
mod Endings
pub mod Moving
mod Places
