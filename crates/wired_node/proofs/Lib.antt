mod Failing
mod Given
mod Histories
mod Pieces
mod Puts
pub mod Sent
mod Since
mod Taking
