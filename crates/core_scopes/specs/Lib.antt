pub mod Meanings
pub mod Outcomes
pub mod Tells
