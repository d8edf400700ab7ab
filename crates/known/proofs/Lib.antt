pub mod KnownLaws
pub mod LargestPrime
