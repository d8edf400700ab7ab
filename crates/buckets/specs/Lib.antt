pub mod Levels
pub mod Adding
pub mod Last
pub mod Summing
