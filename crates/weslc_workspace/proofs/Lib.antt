pub mod Copied
pub mod Counting
pub mod Fronts
pub mod Maps
pub mod Noted
pub mod Places
pub mod Refused
mod Reprinted
mod KeptLemmas
