mod Fitting
mod ByKind
pub mod Opened
pub mod HintLists
pub mod HintMembers
pub mod Written
pub mod Answering
pub mod Entries
pub mod Failing
pub mod Leading
pub mod Mends
