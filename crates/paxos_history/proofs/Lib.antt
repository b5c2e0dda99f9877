pub mod Histories
pub mod Acceptors
mod Bases
pub mod Chains
pub mod Agreement
pub mod OwnProposals
mod Slots
pub mod Contents
mod Replies
pub mod ChosenOrder
mod Example
