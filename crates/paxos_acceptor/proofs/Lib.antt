pub mod Votes
pub mod Runs
pub mod Promises
pub mod Acceptances
pub mod Refusals
pub mod Commits
mod Worked
