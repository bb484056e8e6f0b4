pub mod Paths
pub mod Reading
pub mod Joining
pub mod Laws
pub mod Equality
