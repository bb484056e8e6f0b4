pub mod Starting
pub mod Same
pub mod Longest
