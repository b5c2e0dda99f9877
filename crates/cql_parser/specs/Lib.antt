pub mod Forms
pub mod Reading
pub mod Grammar
pub mod Gives
pub mod Parsing
