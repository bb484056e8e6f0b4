pub mod Found
pub mod Laws
pub mod Mangling
pub mod Unmangling
pub mod SourceMaps
pub use Rattle.wgsl_token.specs.declared.fault.error.Error
