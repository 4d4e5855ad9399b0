pub mod Check
pub mod Columns
