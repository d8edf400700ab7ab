pub mod Follow
pub mod Endings
pub mod ByExponents
pub mod GivingOut
pub mod GivenLaws
pub mod Demands
pub mod Outcomes
