pub mod Demand3
pub mod Rest
pub mod Never
pub mod Receipts
