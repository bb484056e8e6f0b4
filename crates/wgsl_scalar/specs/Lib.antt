pub mod Scalars
pub mod Conversions
pub mod Operators
pub mod Laws
pub mod OperatorTypes
