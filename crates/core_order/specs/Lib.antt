pub mod Order
pub mod Units
pub mod Laws
pub mod Searches
pub mod Progressing
pub mod Checks
