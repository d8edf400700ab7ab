pub mod Exponents
pub mod Layout
pub mod Words
pub mod TotalOrder
pub mod WithoutWeights
