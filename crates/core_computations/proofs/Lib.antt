pub mod Kept
pub mod Laws
pub mod Loops
pub mod Agreed
