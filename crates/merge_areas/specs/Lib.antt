pub mod Areas
pub mod Ways
