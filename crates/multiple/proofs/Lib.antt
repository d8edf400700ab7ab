pub mod ProductLaws
pub mod HighestLaws
