pub mod Once
pub mod Told
