pub mod Bools
pub mod Members
pub mod Queues
pub mod Tops
mod Pieces
mod Whole
