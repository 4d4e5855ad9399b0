pub mod Ceilings
pub mod Keeps
pub mod LineParts
pub mod Listing
pub mod Marked
pub mod Reached
pub mod Refusals
pub mod SetupLaws
