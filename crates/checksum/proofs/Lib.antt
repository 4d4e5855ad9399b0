pub mod CheckLaws
pub mod ColumnLaws
pub mod OneByte
