pub mod Expressions
pub mod Attributes
pub mod Types
pub mod TypesAttributes
