pub mod Tree
pub mod View
pub mod Print
pub mod PiecesPrint
pub use Rattle.wgsl_expressions.specs.View as ExpressionsView
pub use Rattle.wgsl_expressions.specs.Print as ExpressionsPrint
pub use Rattle.wgsl_expressions.specs.AttributesView as AttributesView
pub use Rattle.wgsl_expressions.specs.AttributesPrint as AttributesPrint
pub use Rattle.wgsl_expressions.specs.Tree as ExpressionsTree
pub use Rattle.wgsl_expressions.specs.AttributesTree as AttributesTree
pub use Rattle.wgsl_expressions.specs.Spanned
