pub mod Numbers
pub mod Headers
pub mod Worked
