pub mod Declarations
pub mod Laws
pub mod Leaving
pub mod Passing
