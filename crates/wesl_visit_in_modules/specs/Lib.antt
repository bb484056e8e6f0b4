pub mod Modules
pub mod Meeting
pub mod TypesModules
pub mod TypesMeeting
