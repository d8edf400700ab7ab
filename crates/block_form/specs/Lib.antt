pub mod Form
pub mod Judgement
pub mod FirstKind
