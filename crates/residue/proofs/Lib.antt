-- Laws on plain numbers: what this crate's proofs cite, and crates above it.
pub mod Remainder
pub mod Modular
pub mod Primality
pub mod Euclid
pub mod Inverses
pub mod Shoup
