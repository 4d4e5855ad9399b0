pub mod Fields
pub mod Text
pub mod Parse
pub mod Lines
pub mod Kept
