pub mod PlaceLaws
pub mod OutputLaws
pub mod OutcomeLaws
pub mod AnswerLaws
pub mod StandLaws
