pub mod AddLaws
pub mod Credit
pub mod SearchLaws
pub mod LeftLaws
pub mod SumLaws
pub mod SearchCost
pub mod Levels
pub mod BoundLaws
pub mod EventLaws
pub mod LeadLaws
pub mod Renaming
mod Outcomes
