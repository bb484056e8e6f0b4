pub mod Widening
pub mod Trees
pub mod Narrowing
pub mod Places
pub mod ModulePlaces
pub mod Laws
pub mod InCore
