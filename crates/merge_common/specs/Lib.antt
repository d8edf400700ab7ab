pub mod Lent
pub mod Joining
pub mod Placing
