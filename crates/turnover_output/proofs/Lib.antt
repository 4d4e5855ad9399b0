pub mod TextAtLaws
pub mod AnswerLaws
