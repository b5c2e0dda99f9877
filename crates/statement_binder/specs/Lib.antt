pub mod Filled
pub mod Supplies
pub mod Changes
pub mod Plans
pub mod Answers
pub mod Meanings
pub mod Refusals
pub mod Laws
