pub mod Answering
pub mod Deterministic
pub mod Failing
pub mod Gathers
pub mod Making
pub mod Once
pub mod Passing
