pub mod MergeLaws
pub mod NewsLaws
pub mod CompareLaws
pub mod OrderLaws
