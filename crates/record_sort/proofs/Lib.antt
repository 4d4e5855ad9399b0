pub mod Packing
pub mod Keys
