pub mod Tests
pub mod Headers
pub mod Distinct
