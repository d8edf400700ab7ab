pub mod TableLaws
pub mod JudgementLaws
