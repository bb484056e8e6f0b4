pub mod Reading
pub mod Attributes
pub mod Statements
pub mod Imports
pub mod Declarations
pub mod Making
pub use Rattle.wgsl_attribute_words.specs.Names
pub use Rattle.wgsl_attribute_words.specs.declared.word.AttributeWord
pub use Rattle.wgsl_attribute_words.specs.Words
pub use Rattle.wgsl_nodes.specs.Directives
pub use Rattle.wgsl_nodes.specs.Statements as NodesStatements
