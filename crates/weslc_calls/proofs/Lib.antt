mod Plain
mod Trying
pub use Rattle.core_calls.proofs.Alone
pub use Rattle.wesl_virtual_resolver.proofs.One
