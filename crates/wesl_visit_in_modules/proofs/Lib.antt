pub mod Meeting
pub mod TypesMeeting
