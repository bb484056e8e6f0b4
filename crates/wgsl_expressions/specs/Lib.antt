pub mod Tree
pub mod View
pub mod Print
pub use Rattle.wgsl_path.specs.declared.span.Spanned
pub use Rattle.wgsl_path.specs.declared.path.ModulePath
pub mod AttributesTree
pub mod AttributesView
pub mod AttributesPrint
pub use Rattle.wgsl_words.specs.declared.enumerations.address.AddressSpace
pub use Rattle.wgsl_words.specs.declared.enumerations.address.AccessMode
pub use Rattle.wgsl_words.specs.Texts as EnumerationsTexts
pub use Rattle.wgsl_words.specs.declared.enumerations.words.AssignmentOperator
pub use Rattle.wgsl_words.specs.declared.enumerations.words.DiagnosticSeverity
