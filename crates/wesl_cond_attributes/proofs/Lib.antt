pub mod Counting
pub mod Facts
pub mod Rewriting
