pub mod Calls
pub mod Archives
pub mod Refused
