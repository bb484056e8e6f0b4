pub mod Widened
pub mod Steps
pub use Rattle.core_narrowing.proofs.Alike
pub use Rattle.core_narrowing.proofs.Lying
