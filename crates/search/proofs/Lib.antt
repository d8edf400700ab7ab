pub mod SeekLaws
pub mod SeekState
pub mod FindLaws
pub mod FindState
pub mod TakeLaws
pub mod WordLaws
pub mod LargestLaws
