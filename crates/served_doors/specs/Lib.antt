pub mod Opening
pub mod Ledger
