pub mod Laws
pub mod ListLaws
pub mod TallyLaws
pub mod SortLaws
