pub mod Acceptor
pub mod Steps
pub mod Laws
pub mod Worked
