pub mod Notations
pub mod Reading
pub mod Spelling
