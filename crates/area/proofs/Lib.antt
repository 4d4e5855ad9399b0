pub mod Parts
pub mod Exact
pub mod Runs
