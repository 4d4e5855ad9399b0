pub mod KeyLaws
pub mod RisingLaws
pub mod WindowLaws
pub mod DriverLaws
