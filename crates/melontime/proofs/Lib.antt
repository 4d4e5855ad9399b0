pub mod Laws
pub mod Archives
pub mod Refused
