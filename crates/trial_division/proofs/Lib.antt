-- Laws on plain numbers and lists: what this crate's proofs cite, and crates above it.
pub mod TrialDivision
pub mod TableLaws
