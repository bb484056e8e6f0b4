pub mod Ends
pub mod Scopes
pub mod Start
pub mod Refusals
pub mod Starts
