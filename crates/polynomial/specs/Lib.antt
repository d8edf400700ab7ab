pub mod Settings
pub mod Terms
pub mod Merge
pub mod Multiple
pub mod Opening
pub mod Checking
