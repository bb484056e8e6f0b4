pub mod NoPaths
pub mod Places
mod Shown
mod Loaded
mod Assembled
