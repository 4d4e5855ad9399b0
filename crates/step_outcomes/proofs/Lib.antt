pub mod Local
pub mod Outcome
