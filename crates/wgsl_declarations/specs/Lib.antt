pub mod Tree
pub mod View
pub mod Print
pub use Rattle.wgsl_statements.specs.Tree as StatementsTree
pub use Rattle.wgsl_statements.specs.SimpleStatementsTree
pub use Rattle.wgsl_statements.specs.CaseSelector
pub use Rattle.wgsl_statements.specs.declared.statement.Statement
pub use Rattle.wgsl_statements.specs.declared.statement.ElseIfClauseOf
pub use Rattle.wgsl_statements.specs.declared.statement.SwitchClauseOf
pub use Rattle.wgsl_statements.specs.DeclarationKind
pub mod ImportsTree
pub mod ImportsView
pub mod ImportsPrint
pub use Rattle.wgsl_expressions.specs.View as ExpressionsView
pub use Rattle.wgsl_expressions.specs.Print as ExpressionsPrint
pub use Rattle.wgsl_expressions.specs.AttributesView as AttributesView
pub use Rattle.wgsl_expressions.specs.Tree as ExpressionsTree
pub use Rattle.wgsl_expressions.specs.AttributesTree as AttributesTree
pub use Rattle.wgsl_expressions.specs.AttributesPrint as AttributesPrint
pub use Rattle.wgsl_expressions.specs.Spanned
pub use Rattle.wgsl_expressions.specs.declared.attributes.attribute.Attribute
