pub mod Answers
pub mod Does
pub mod Link
pub mod Room
pub mod Settles
