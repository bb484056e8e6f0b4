pub mod Pairing
pub mod Types
pub mod Gathering
pub mod Members
pub mod ConstructorsTypes
