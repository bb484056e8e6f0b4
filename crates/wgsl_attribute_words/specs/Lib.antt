pub mod Words
pub mod Names
pub mod Attributes
pub mod Choices
