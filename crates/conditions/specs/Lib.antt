pub mod Lengths
pub mod Operations
pub mod Divisors
