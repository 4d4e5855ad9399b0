pub mod Reading
pub mod Made
