pub mod Cases
pub mod Turns
pub mod Layers
pub mod TypesCases
pub mod Visits
