pub mod formers
pub mod Memory
pub mod Texts
pub mod Tops
pub mod Queues
pub mod Indented
pub mod Writing
