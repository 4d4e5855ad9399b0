pub mod PassingLaws
pub mod JoinedLaws
pub mod PlacesLaws
pub mod SumLaws
pub mod CountLaws
pub mod OneList
