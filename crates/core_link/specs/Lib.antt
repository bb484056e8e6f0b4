pub mod Assembling
pub mod Clashing
pub mod Answers
pub mod Recording
pub mod ResolutionClauses
