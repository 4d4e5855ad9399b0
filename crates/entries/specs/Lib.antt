pub mod Starts
pub mod Entries
