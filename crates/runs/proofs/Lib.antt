pub mod OpenedLaws
pub mod OutcomeLaws
