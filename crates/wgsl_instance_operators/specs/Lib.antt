pub mod Laws
pub mod Operators
pub mod Built
pub mod ConstructorsLaws
