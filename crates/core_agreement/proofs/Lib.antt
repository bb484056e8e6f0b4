pub mod Units
pub mod Texts
pub mod Tokens
pub mod Outcomes
pub mod Told
pub mod Answers
