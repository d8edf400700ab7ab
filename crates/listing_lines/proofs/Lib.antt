pub mod PutLaws
pub mod PlaceLaws
pub mod AnswerLaws
