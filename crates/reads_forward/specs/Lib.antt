pub mod ReadsForward
pub mod Laws
