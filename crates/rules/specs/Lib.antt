pub mod Setup
pub mod Table
