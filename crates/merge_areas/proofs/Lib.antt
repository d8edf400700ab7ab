pub mod Windows
pub mod Cuts
pub mod Leading
pub mod Stored
pub mod Moving
pub mod Resting
pub mod Joining
mod Outcomes
