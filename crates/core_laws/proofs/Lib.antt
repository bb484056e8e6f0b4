pub mod Runs
pub mod Declared
pub mod Headline
pub use Rattle.core_modules_meaning.proofs.Loading
pub use Rattle.core_modules_meaning.proofs.Same
pub use Rattle.core_modules_meaning.proofs.Declared as MeaningDeclared
pub use Rattle.core_modules_meaning.proofs.Moves
pub use Rattle.core_texts.proofs.Once
pub use Rattle.core_modules_meaning.proofs.Existing
