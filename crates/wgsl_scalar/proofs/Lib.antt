pub mod Widened
pub mod Types
pub mod Stages
pub mod OperatorTypes
