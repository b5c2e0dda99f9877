pub mod Gains
pub mod HistoryLaws
mod Keeps
mod Lifting
mod Lists
mod Receipts
mod Seats
