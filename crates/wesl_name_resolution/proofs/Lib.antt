pub mod Steps
pub mod Known
pub mod Chains
pub mod Ways
pub mod Answered
pub mod Rows
