pub mod Archive
pub mod Worked
