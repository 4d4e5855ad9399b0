pub mod Num
pub mod Splice
pub mod Rows
pub mod Every
pub mod Put
pub mod Written
