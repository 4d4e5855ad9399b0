pub mod Laws
pub mod Calls
pub mod Whole
pub mod Made
