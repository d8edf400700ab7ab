pub mod DivisorLaws
pub mod InverseLaws
pub mod KeptLaws
