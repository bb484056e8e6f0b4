pub mod Laid
pub mod Units
