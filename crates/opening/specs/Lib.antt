pub mod Run
pub mod Reduction
pub mod Judgement
pub mod ReductionJudgement
