pub mod Buckets
pub mod Search
pub mod Events
pub mod TrueSum
pub mod Levels
pub mod Credit
