pub mod Held
pub mod Histories
pub mod Passes
pub mod Rules
pub mod Stepped
pub mod Views
