pub mod Held
pub mod Ahead
