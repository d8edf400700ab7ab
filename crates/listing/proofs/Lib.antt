pub mod WholeLaws
pub mod SizeLaws
pub mod NeverFull
pub mod OutcomeLaws
pub mod GivenLaws
pub mod LengthLaws
mod Outcomes
pub mod Additions
pub mod WeightsJudged
pub mod LinesJudged
pub mod Judgements
pub mod Demands
