pub mod Machine
pub mod Lift
pub mod Compare
pub mod Loops
pub use Rattle.wgsl_memory.specs.Places
