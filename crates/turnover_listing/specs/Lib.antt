pub mod Ceilings
pub mod Listing
pub mod Marked
pub mod Refusals
