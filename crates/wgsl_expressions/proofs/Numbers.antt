-- Which expressions are numbers.
use Rattle.std.proofs.Common.{◌≡◌, ap, false}
use Rattle.wgsl_expressions.specs.declared.expression.LiteralExpression.{LiteralExpression}
use Rattle.wgsl_expressions.specs.declared.expression.ParenthesizedExpressionOf.{ParenthesizedExpressionOf}
use Rattle.wgsl_expressions.specs.declared.expression.NamedComponentExpressionOf.{NamedComponentExpressionOf}
use Rattle.wgsl_expressions.specs.declared.expression.IndexingExpressionOf.{IndexingExpressionOf}
use Rattle.wgsl_expressions.specs.declared.expression.UnaryExpressionOf.{UnaryExpressionOf}
use Rattle.wgsl_expressions.specs.declared.expression.BinaryExpressionOf.{BinaryExpressionOf}
use Rattle.wgsl_expressions.specs.declared.expression.FunctionCallOf.{FunctionCallOf}
use Rattle.wgsl_expressions.specs.declared.expression.TypeExpressionOf.{TypeExpressionOf}
use Rattle.wgsl_expressions.specs.declared.expression.Expression.{Expression}
use Rattle.wgsl_expressions.specs.declared.expression.Expression.TheVariants.{Literal, Parenthesized, NamedComponent, Indexing, Unary, Binary, FunctionCall, TypeOrIdentifier}
use Rattle.wgsl_expressions.specs.View.{tree}
use Rattle.wgsl_expressions.specs.Print.{is_number, is_numeric}
use Rattle.wgsl_expressions.proofs.Trees.{tree_of_literal, tree_of_parenthesized, tree_of_component, tree_of_indexed, tree_of_unary, tree_of_binary, tree_of_call, tree_of_named}

pub literal_numeric : (x : LiteralExpression) → is_numeric (tree (Literal x)) ≡ is_number x
literal_numeric x = ap is_numeric (tree_of_literal x)

pub parenthesized_numeric : (x : ParenthesizedExpressionOf Expression) → is_numeric (tree (Parenthesized x)) ≡ false
parenthesized_numeric x = ap is_numeric (tree_of_parenthesized x)

pub component_numeric : (x : NamedComponentExpressionOf Expression) → is_numeric (tree (NamedComponent x)) ≡ false
component_numeric x = ap is_numeric (tree_of_component x)

pub indexed_numeric : (x : IndexingExpressionOf Expression) → is_numeric (tree (Indexing x)) ≡ false
indexed_numeric x = ap is_numeric (tree_of_indexed x)

pub unary_numeric : (x : UnaryExpressionOf Expression) → is_numeric (tree (Unary x)) ≡ false
unary_numeric x = ap is_numeric (tree_of_unary x)

pub binary_numeric : (x : BinaryExpressionOf Expression) → is_numeric (tree (Binary x)) ≡ false
binary_numeric x = ap is_numeric (tree_of_binary x)

pub call_numeric : (x : FunctionCallOf Expression) → is_numeric (tree (FunctionCall x)) ≡ false
call_numeric x = ap is_numeric (tree_of_call x)

pub named_numeric : (x : TypeExpressionOf Expression) → is_numeric (tree (TypeOrIdentifier x)) ≡ false
named_numeric x = ap is_numeric (tree_of_named x)
