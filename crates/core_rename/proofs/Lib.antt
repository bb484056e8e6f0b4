pub mod TreeLemmas
pub mod SetLemmas
pub mod Renames
