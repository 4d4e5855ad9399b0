pub mod SeenLaws
pub mod SlotLaws
pub mod TurnLaws
