pub mod Answers
pub mod Lending
pub mod States
