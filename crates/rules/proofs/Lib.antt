pub mod TableLaws
pub mod Laws
