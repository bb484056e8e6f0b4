pub mod Kinds
pub mod Entering
