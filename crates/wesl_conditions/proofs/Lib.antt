pub mod Absorbing
pub mod Knowing
pub mod MeaningLemmas
mod Insertion
pub mod Walking
pub mod Checking
pub mod Turns
