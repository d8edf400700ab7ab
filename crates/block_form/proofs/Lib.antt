pub mod FormLaws
pub mod Judgements
pub mod FirstKindLaws
