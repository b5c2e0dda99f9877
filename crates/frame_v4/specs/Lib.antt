pub mod Spelling
pub mod Stream
pub mod Reading
pub mod Framer
pub mod Laws
