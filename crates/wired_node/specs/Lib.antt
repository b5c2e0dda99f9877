pub mod Answers
pub mod Sending
pub mod States
pub mod Making
pub mod Laws
