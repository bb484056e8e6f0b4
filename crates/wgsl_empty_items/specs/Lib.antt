pub mod Statements
pub mod Units
pub mod Counts
pub mod Laws
pub use Rattle.wgsl_declarations.specs.View as DeclarationsView
pub use Rattle.wgsl_declarations.specs.Print as DeclarationsPrint
pub mod Expressions
pub mod EqualityLaws
