pub mod Lists
pub mod Steps
pub mod Turns
pub mod Joins
pub mod State
pub mod Shifts
pub mod ReadBack
