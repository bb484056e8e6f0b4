pub mod Collecting
pub mod Conversions
pub mod ConvertedTypes
pub mod Typings
pub mod Zeros
