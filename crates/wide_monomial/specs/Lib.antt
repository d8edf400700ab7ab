pub mod Widths
pub mod Wide
pub mod WideKeys
pub mod WideWords
