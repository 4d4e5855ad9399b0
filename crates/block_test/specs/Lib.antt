pub mod BlockTest
pub mod Sweep
