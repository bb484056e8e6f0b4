pub mod Tree
pub mod View
pub mod Print
pub use Rattle.wgsl_simple_statements.specs.Tree as SimpleStatementsTree
pub use Rattle.wgsl_simple_statements.specs.Print as SimpleStatementsPrint
pub use Rattle.wgsl_simple_statements.specs.declared.declaration.DeclarationKind
pub use Rattle.wgsl_simple_statements.specs.declared.declaration.Declaration
pub use Rattle.wgsl_simple_statements.specs.declared.declaration.ConstAssert
pub use Rattle.wgsl_simple_statements.specs.declared.statement.CaseSelector
