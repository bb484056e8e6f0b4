pub mod SuperLemmas
pub mod PartsLemmas
pub mod JoinLemmas
pub mod Lawful
pub mod Printed
pub use Rattle.wgsl_base.proofs.Bools
