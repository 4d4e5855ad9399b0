pub mod TextAt
pub mod Answer
