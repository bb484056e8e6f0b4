pub mod Operators
pub mod Texts
pub mod Names
pub mod Builtin
