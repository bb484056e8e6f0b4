pub mod Compiled
pub mod Once
pub mod Located
pub use Rattle.core_texts.specs.Texts
pub use Rattle.core_texts.specs.Derivable
