pub mod Keyed
pub mod Refused
pub mod Stored
