pub mod Nodes
pub mod Found
pub use Rattle.wgsl_declarations.specs.View as DeclarationsView
pub use Rattle.wgsl_statements.specs.View as StatementsView
pub use Rattle.wgsl_declarations.specs.Tree as DeclarationsTree
pub use Rattle.wgsl_declarations.specs.declared.declaration.Function
pub use Rattle.wgsl_statements.specs.Tree as StatementsTree
pub mod Placed
pub mod Alone
