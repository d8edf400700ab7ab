pub mod Tests
pub mod LengthLaws
pub mod OperationLaws
pub mod OperationsJudged
pub mod DivisorLaws
