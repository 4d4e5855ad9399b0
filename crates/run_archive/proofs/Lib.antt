pub mod RangeLaws
pub mod MadeLaws
pub mod EventLaws
pub mod KeptLaws
pub mod Across
pub mod Told
pub mod OverAreas
