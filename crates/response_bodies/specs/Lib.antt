pub mod Reading
pub mod Spelling
pub mod Responses
pub mod Laws
