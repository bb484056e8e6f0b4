pub mod Rings
pub mod Searches
