pub mod Precompiling
