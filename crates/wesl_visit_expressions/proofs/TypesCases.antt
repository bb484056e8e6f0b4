-- The types in each kind of expression, and all of it but these.
use Rattle.std.proofs.Common.{◌≡◌, ap, ◌∙◌, [], ◌∷◌, ◌++◌}
use Rattle.wgsl_expressions.specs.declared.expression.LiteralExpression.{LiteralExpression}
use Rattle.wgsl_expressions.specs.declared.expression.ParenthesizedExpressionOf.{ParenthesizedExpressionOf}
use Rattle.wgsl_expressions.specs.declared.expression.NamedComponentExpressionOf.{NamedComponentExpressionOf}
use Rattle.wgsl_expressions.specs.declared.expression.IndexingExpressionOf.{IndexingExpressionOf}
use Rattle.wgsl_expressions.specs.declared.expression.UnaryExpressionOf.{UnaryExpressionOf}
use Rattle.wgsl_expressions.specs.declared.expression.BinaryExpressionOf.{BinaryExpressionOf}
use Rattle.wgsl_expressions.specs.declared.expression.FunctionCallOf.{FunctionCallOf}
use Rattle.wgsl_expressions.specs.declared.expression.TypeExpressionOf.{TypeExpressionOf}
use Rattle.wgsl_expressions.specs.declared.expression.Expression.{Expression}
use Rattle.wgsl_expressions.specs.declared.expression.Expression.TheVariants as code
use Rattle.wesl_visit_expressions.specs.Types.{types_in, in_call, blank, around_parenthesized, around_component, around_indexing, around_unary, around_binary, around_call, around_layer, around_types}
use Rattle.wesl_visit_expressions.proofs.Layers.{in_expressions, in_out, around_out}

pub in_of_literal : (x : LiteralExpression) → types_in (code.Literal x) ≡ []
in_of_literal x = in_out (code.Literal x) ∙ ap in_expressions (code.outs-Literal x)

pub around_of_literal : (x : LiteralExpression) → around_types (code.Literal x) ≡ code.Literal x
around_of_literal x = around_out (code.Literal x) ∙ ap (around_layer around_types) (code.outs-Literal x)

pub in_of_parenthesized : (x : ParenthesizedExpressionOf Expression) → types_in (code.Parenthesized x) ≡ types_in x.expression.node
in_of_parenthesized x = in_out (code.Parenthesized x) ∙ ap in_expressions (code.outs-Parenthesized x)

pub around_of_parenthesized : (x : ParenthesizedExpressionOf Expression) → around_types (code.Parenthesized x) ≡ code.Parenthesized (around_parenthesized around_types x)
around_of_parenthesized x = around_out (code.Parenthesized x) ∙ ap (around_layer around_types) (code.outs-Parenthesized x)

pub in_of_component : (x : NamedComponentExpressionOf Expression) → types_in (code.NamedComponent x) ≡ types_in x.base.node
in_of_component x = in_out (code.NamedComponent x) ∙ ap in_expressions (code.outs-NamedComponent x)

pub around_of_component : (x : NamedComponentExpressionOf Expression) → around_types (code.NamedComponent x) ≡ code.NamedComponent (around_component around_types x)
around_of_component x = around_out (code.NamedComponent x) ∙ ap (around_layer around_types) (code.outs-NamedComponent x)

pub in_of_indexing : (x : IndexingExpressionOf Expression) → types_in (code.Indexing x) ≡ types_in x.base.node ++ types_in x.index.node
in_of_indexing x = in_out (code.Indexing x) ∙ ap in_expressions (code.outs-Indexing x)

pub around_of_indexing : (x : IndexingExpressionOf Expression) → around_types (code.Indexing x) ≡ code.Indexing (around_indexing around_types x)
around_of_indexing x = around_out (code.Indexing x) ∙ ap (around_layer around_types) (code.outs-Indexing x)

pub in_of_unary : (x : UnaryExpressionOf Expression) → types_in (code.Unary x) ≡ types_in x.operand.node
in_of_unary x = in_out (code.Unary x) ∙ ap in_expressions (code.outs-Unary x)

pub around_of_unary : (x : UnaryExpressionOf Expression) → around_types (code.Unary x) ≡ code.Unary (around_unary around_types x)
around_of_unary x = around_out (code.Unary x) ∙ ap (around_layer around_types) (code.outs-Unary x)

pub in_of_binary : (x : BinaryExpressionOf Expression) → types_in (code.Binary x) ≡ types_in x.left.node ++ types_in x.right.node
in_of_binary x = in_out (code.Binary x) ∙ ap in_expressions (code.outs-Binary x)

pub around_of_binary : (x : BinaryExpressionOf Expression) → around_types (code.Binary x) ≡ code.Binary (around_binary around_types x)
around_of_binary x = around_out (code.Binary x) ∙ ap (around_layer around_types) (code.outs-Binary x)

pub in_of_call : (x : FunctionCallOf Expression) → types_in (code.FunctionCall x) ≡ in_call x
in_of_call x = in_out (code.FunctionCall x) ∙ ap in_expressions (code.outs-FunctionCall x)

pub around_of_call : (x : FunctionCallOf Expression) → around_types (code.FunctionCall x) ≡ code.FunctionCall (around_call around_types x)
around_of_call x = around_out (code.FunctionCall x) ∙ ap (around_layer around_types) (code.outs-FunctionCall x)

pub in_of_named : (x : TypeExpressionOf Expression) → types_in (code.TypeOrIdentifier x) ≡ x ∷ []
in_of_named x = in_out (code.TypeOrIdentifier x) ∙ ap in_expressions (code.outs-TypeOrIdentifier x)

pub around_of_named : (x : TypeExpressionOf Expression) → around_types (code.TypeOrIdentifier x) ≡ code.TypeOrIdentifier blank
around_of_named x = around_out (code.TypeOrIdentifier x) ∙ ap (around_layer around_types) (code.outs-TypeOrIdentifier x)

pub ruleset inner = (in_of_literal, in_of_parenthesized, in_of_component, in_of_indexing, in_of_unary, in_of_binary, in_of_call, in_of_named)

pub ruleset outer = (around_of_literal, around_of_parenthesized, around_of_component, around_of_indexing, around_of_unary, around_of_binary, around_of_call, around_of_named)
