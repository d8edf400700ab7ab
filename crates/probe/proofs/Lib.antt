pub mod Answering
pub mod LendingLaws
pub mod Moduli
pub mod Packing
pub mod WeightLaws
mod Counts
