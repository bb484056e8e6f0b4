pub mod ClearLemmas
pub mod Once
pub mod Located
pub use Rattle.core_texts.proofs.Whole
