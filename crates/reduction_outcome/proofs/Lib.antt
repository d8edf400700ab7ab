pub mod OpenedLaws
pub mod Demands
pub mod Bars
pub mod Edits
pub mod StepLimit
