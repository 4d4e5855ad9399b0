pub mod PartLaws
pub mod Laws
