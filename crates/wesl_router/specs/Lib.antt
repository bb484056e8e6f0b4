pub mod Choice
pub mod Routing
pub mod Laws
pub mod Telling
pub mod Longest
