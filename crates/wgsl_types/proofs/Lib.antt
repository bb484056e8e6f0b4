pub mod Emptiness
pub mod Lawful
pub mod Making
pub mod Together
pub mod Converted
