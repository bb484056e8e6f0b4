pub mod Bodies
pub mod Lowered
