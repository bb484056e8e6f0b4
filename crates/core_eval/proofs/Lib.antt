pub mod Lists
pub mod Refusals
pub mod Faults
pub mod Tables
