pub mod Cutting
pub mod Items
pub mod Reading
pub mod Maps
