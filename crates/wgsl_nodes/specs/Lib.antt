pub mod Attributes
pub mod Declarations
pub mod Directives
pub mod Statements
pub use Rattle.wgsl_declarations.specs.declared.declaration.GlobalDeclaration
pub use Rattle.wgsl_declarations.specs.declared.declaration.FormalParameter
