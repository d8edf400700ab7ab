pub mod PlaceLaws
pub mod WriteLaws
pub mod ReadLaws
mod InsideLaws
pub mod RoundTrip
pub mod Accepted
pub mod Counts
mod Outcomes
pub mod Judgements
pub mod Demands
pub mod LargerPrimes
pub mod WeightedDegrees
