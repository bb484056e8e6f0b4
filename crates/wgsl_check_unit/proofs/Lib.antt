pub mod Telling
pub mod Naming
pub use Rattle.wgsl_read_back.proofs.Once
pub use Rattle.wgsl_read_back.proofs.One
pub use Rattle.wgsl_read_back.proofs.ModuleLaws
pub use Rattle.wgsl_read_back.proofs.Apart
