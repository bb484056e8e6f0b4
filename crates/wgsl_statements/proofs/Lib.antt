pub mod Trees
pub mod Texts
