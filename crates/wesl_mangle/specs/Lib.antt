pub mod Cached
pub mod Recorded
