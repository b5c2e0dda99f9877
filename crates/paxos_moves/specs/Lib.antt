pub mod Timing
pub mod Promises
pub mod Proposals
pub mod Operations
pub mod Stories
pub mod Laws
pub mod Worked
