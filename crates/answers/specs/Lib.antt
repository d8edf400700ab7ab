pub mod Course
pub mod Store
pub mod Lister
