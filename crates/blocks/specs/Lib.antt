pub mod Reading
pub mod Outcome
pub mod Judgement
pub mod FirstKind
