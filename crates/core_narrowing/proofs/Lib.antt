pub mod Steps
pub mod Lying
pub mod Alike
pub mod Placed
pub mod PlacedWhole
pub mod PlaceSteps
