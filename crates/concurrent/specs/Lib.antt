pub mod Unordered
pub mod Tally
