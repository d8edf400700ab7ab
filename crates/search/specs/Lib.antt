pub mod Candidates
pub mod Searching
pub mod Largest
