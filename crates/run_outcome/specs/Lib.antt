pub mod Runs
pub mod Demanded
pub mod GivenOut
pub mod Ending
pub mod Outcome
