pub mod Calls
pub mod Sound
