pub mod Read
pub mod Refusals
pub mod TurnedLaws
