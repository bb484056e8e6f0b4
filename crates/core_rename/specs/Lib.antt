pub mod Scopes
pub mod Renaming
pub mod Parts
