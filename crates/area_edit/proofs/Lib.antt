pub mod PartLaws
pub mod ControlLaws
