pub mod Exchanges
pub mod Conversations
pub mod Steps
