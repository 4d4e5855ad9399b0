pub mod Timestamp
pub mod Order
pub mod Range
pub mod Worked
pub mod Numbers
