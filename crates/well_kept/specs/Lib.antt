pub mod WellKept
pub mod Keys
pub mod Windows
