pub mod States
pub mod Answers
pub mod Lending
pub mod Counts
pub mod Places
pub mod Demand3
