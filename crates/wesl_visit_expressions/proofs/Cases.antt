-- The expressions inside each kind of expression, and all of it but these.
use Rattle.std.proofs.Common.{◌≡◌, ap, [], ◌∷◌}
use Rattle.wgsl_expressions.specs.declared.expression.LiteralExpression.{LiteralExpression}
use Rattle.wgsl_expressions.specs.declared.expression.ParenthesizedExpressionOf.{ParenthesizedExpressionOf}
use Rattle.wgsl_expressions.specs.declared.expression.NamedComponentExpressionOf.{NamedComponentExpressionOf}
use Rattle.wgsl_expressions.specs.declared.expression.IndexingExpressionOf.{IndexingExpressionOf}
use Rattle.wgsl_expressions.specs.declared.expression.UnaryExpressionOf.{UnaryExpressionOf}
use Rattle.wgsl_expressions.specs.declared.expression.BinaryExpressionOf.{BinaryExpressionOf}
use Rattle.wgsl_expressions.specs.declared.expression.FunctionCallOf.{FunctionCallOf}
use Rattle.wgsl_expressions.specs.declared.expression.TypeExpressionOf.{TypeExpressionOf}
use Rattle.wgsl_expressions.specs.declared.expression.Expression.{Expression}
use Rattle.wgsl_expressions.specs.declared.expression.Expression.TheVariants as code
use Rattle.wesl_visit_expressions.specs.Expressions.{in_type, in_call, in_layer, expressions_in, around_parenthesized, around_component, around_indexing, around_unary, around_binary, around_type, around_call, around_layer, around_expressions}

pub in_of_literal : (x : LiteralExpression) → expressions_in (code.Literal x) ≡ []
in_of_literal x = ap in_layer (code.outs-Literal x)

pub around_of_literal : (x : LiteralExpression) → around_expressions (code.Literal x) ≡ code.Literal x
around_of_literal x = ap around_layer (code.outs-Literal x)

pub in_of_parenthesized : (x : ParenthesizedExpressionOf Expression) → expressions_in (code.Parenthesized x) ≡ x.expression ∷ []
in_of_parenthesized x = ap in_layer (code.outs-Parenthesized x)

pub around_of_parenthesized : (x : ParenthesizedExpressionOf Expression) → around_expressions (code.Parenthesized x) ≡ code.Parenthesized (around_parenthesized x)
around_of_parenthesized x = ap around_layer (code.outs-Parenthesized x)

pub in_of_component : (x : NamedComponentExpressionOf Expression) → expressions_in (code.NamedComponent x) ≡ x.base ∷ []
in_of_component x = ap in_layer (code.outs-NamedComponent x)

pub around_of_component : (x : NamedComponentExpressionOf Expression) → around_expressions (code.NamedComponent x) ≡ code.NamedComponent (around_component x)
around_of_component x = ap around_layer (code.outs-NamedComponent x)

pub in_of_indexing : (x : IndexingExpressionOf Expression) → expressions_in (code.Indexing x) ≡ x.base ∷ x.index ∷ []
in_of_indexing x = ap in_layer (code.outs-Indexing x)

pub around_of_indexing : (x : IndexingExpressionOf Expression) → around_expressions (code.Indexing x) ≡ code.Indexing (around_indexing x)
around_of_indexing x = ap around_layer (code.outs-Indexing x)

pub in_of_unary : (x : UnaryExpressionOf Expression) → expressions_in (code.Unary x) ≡ x.operand ∷ []
in_of_unary x = ap in_layer (code.outs-Unary x)

pub around_of_unary : (x : UnaryExpressionOf Expression) → around_expressions (code.Unary x) ≡ code.Unary (around_unary x)
around_of_unary x = ap around_layer (code.outs-Unary x)

pub in_of_binary : (x : BinaryExpressionOf Expression) → expressions_in (code.Binary x) ≡ x.left ∷ x.right ∷ []
in_of_binary x = ap in_layer (code.outs-Binary x)

pub around_of_binary : (x : BinaryExpressionOf Expression) → around_expressions (code.Binary x) ≡ code.Binary (around_binary x)
around_of_binary x = ap around_layer (code.outs-Binary x)

pub in_of_call : (x : FunctionCallOf Expression) → expressions_in (code.FunctionCall x) ≡ in_call x
in_of_call x = ap in_layer (code.outs-FunctionCall x)

pub around_of_call : (x : FunctionCallOf Expression) → around_expressions (code.FunctionCall x) ≡ code.FunctionCall (around_call x)
around_of_call x = ap around_layer (code.outs-FunctionCall x)

pub in_of_named : (x : TypeExpressionOf Expression) → expressions_in (code.TypeOrIdentifier x) ≡ in_type x
in_of_named x = ap in_layer (code.outs-TypeOrIdentifier x)

pub around_of_named : (x : TypeExpressionOf Expression) → around_expressions (code.TypeOrIdentifier x) ≡ code.TypeOrIdentifier (around_type x)
around_of_named x = ap around_layer (code.outs-TypeOrIdentifier x)

pub ruleset inner = (in_of_literal, in_of_parenthesized, in_of_component, in_of_indexing, in_of_unary, in_of_binary, in_of_call, in_of_named)

pub ruleset outer = (around_of_literal, around_of_parenthesized, around_of_component, around_of_indexing, around_of_unary, around_of_binary, around_of_call, around_of_named)
