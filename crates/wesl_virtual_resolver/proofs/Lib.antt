pub mod Added
pub mod Said
pub use Rattle.wgsl_read_back.proofs.One
