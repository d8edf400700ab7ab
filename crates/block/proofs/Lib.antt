pub mod ByteLaws
pub mod WeightLaws
pub mod BlockLaws
pub mod FieldLaws
