pub mod Table
pub mod Judgement
pub mod Calls
