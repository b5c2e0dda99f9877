pub mod Shown
pub mod Loading
pub mod Releasing
