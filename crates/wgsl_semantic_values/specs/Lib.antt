pub mod Reading
pub mod Making
pub mod Values
pub mod Lists
pub use Rattle.wgsl_declarations.specs.declared.unit.TranslationUnit
