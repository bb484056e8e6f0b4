pub mod Changing
pub mod Clauses
pub mod Flat
pub mod Lists
pub mod Passing
pub mod Running
