pub mod Reading
pub mod Printing
pub mod Whole
pub mod Told
pub use Rattle.wgsl_check_unit.proofs.Once
