pub mod FrontLaws
pub mod SweepLaws
