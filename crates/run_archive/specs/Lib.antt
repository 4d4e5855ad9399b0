pub mod Made
pub mod Claims
