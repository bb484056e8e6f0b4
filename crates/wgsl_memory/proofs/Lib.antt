pub mod Puts
pub mod Viewing
pub mod Writes
