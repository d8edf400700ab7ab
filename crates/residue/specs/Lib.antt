pub mod Prime
pub mod Modular
pub mod Share
