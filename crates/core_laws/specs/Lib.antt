pub mod Compiled
pub mod Declared
pub mod Headline
pub use Rattle.core_modules_meaning.specs.Programs
pub use Rattle.core_modules_meaning.specs.Executions
pub use Rattle.core_texts.specs.ParserTexts
pub use Rattle.core_lower.specs.DeclarationFault
pub use Rattle.core_modules_meaning.specs.Runs
