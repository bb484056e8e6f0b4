pub mod Steps
pub mod Skeletons
pub mod Spots
