pub mod FirstLine
mod NextWords
pub mod NumberLaws
pub mod Trimming
pub mod WordLaws
pub mod WordSplits
