pub mod First
pub mod Scopes
pub mod Lookups
pub mod Rings
pub mod Searches
pub mod Faults
pub mod Clearness
pub mod Located
