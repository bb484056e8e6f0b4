pub mod Layers
pub mod Cases
pub mod Listed
pub mod Lists
pub mod TurnsLemmas
pub mod Loops
pub mod Deep
pub mod DeepLoops
