pub mod PassLaws
pub mod ReachLaws
pub mod Laws
