pub mod Loops
pub mod Onward
mod Shown
pub use Rattle.wgsl_base.proofs.Members
