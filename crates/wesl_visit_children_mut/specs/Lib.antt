pub mod Attributes
pub mod Meeting
