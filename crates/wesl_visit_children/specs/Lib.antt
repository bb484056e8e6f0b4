pub mod Parts
pub mod Listed
pub mod Rest
pub mod Turns
