pub mod Texts
pub mod Trees
pub mod ImportsTexts
pub use Rattle.wgsl_expressions.proofs.Commas
