pub mod Whole
pub mod Outcome
pub mod Printed
pub mod Judgement
