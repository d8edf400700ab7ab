pub mod Accepted
pub mod Written
pub mod Prefix
pub mod NumbersLaws
pub mod EntryLaws
pub mod WeightsLaws
pub mod HeaderLaws
