pub mod Turn
pub mod Slots
pub mod Raise
