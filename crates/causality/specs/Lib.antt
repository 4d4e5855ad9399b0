pub mod Plain
pub mod HappenedBefore
pub mod Sound
pub mod Rest
pub mod Worked
