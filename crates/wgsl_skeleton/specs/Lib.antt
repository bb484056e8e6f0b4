pub mod Skeleton
pub mod Trees
pub mod Occurrences
pub mod Renaming
pub mod Laws
pub mod Flats
pub mod Examples
pub use Rattle.wgsl_expressions.specs.Tree as ExpressionsTree
pub use Rattle.wgsl_expressions.specs.AttributesTree as AttributesTree
pub use Rattle.wgsl_declarations.specs.SimpleStatementsTree
pub use Rattle.wgsl_declarations.specs.StatementsTree
pub use Rattle.wgsl_declarations.specs.ImportsTree
pub use Rattle.wgsl_declarations.specs.Tree as DeclarationsTree
pub use Rattle.wgsl_declarations.specs.DeclarationKind
