pub mod Divisors
pub mod Dividing
pub mod Stepping
