pub mod Deciding
pub mod Once
pub mod Checking
pub mod Positions
pub mod Searching
pub mod Starting
pub mod Using
