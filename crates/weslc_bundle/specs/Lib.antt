pub mod Bundles
pub mod Fields
pub mod Held
pub mod Output
pub mod Served
pub mod Handed
