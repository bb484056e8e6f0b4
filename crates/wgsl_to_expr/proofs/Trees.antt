-- The trees of what is written.
use Rattle.std.proofs.Common.{◌≡◌, ap, ◌∙◌, ℕ, List, map, None, pos}
use Rattle.wgsl_path.specs.declared.span.Spanned.{Spanned}
use Rattle.wgsl_path.specs.declared.ident.Ident.{Ident}
use Rattle.wgsl_words.specs.declared.operators.BinaryOperator.TheVariants.{Subtraction}
use Rattle.wgsl_expressions.specs.declared.expression.LiteralExpression.TheVariants.{AbstractInt}
use Rattle.wgsl_expressions.specs.declared.expression.Expression.{Expression}
use Rattle.wgsl_expressions.specs.declared.expression.Expression.TheVariants.{Binary, FunctionCall, Literal}
use Rattle.wgsl_expressions.specs.declared.expression.FunctionCallOf.{FunctionCallOf}
use Rattle.wgsl_expressions.specs.declared.expression.TypeExpressionOf.{TypeExpressionOf}
use Rattle.wgsl_expressions.specs.Tree.{exps, literal, binary, call, simple}
use Rattle.wgsl_expressions.specs.View.{tree, node_tree, type_tree, call_layer}
use Rattle.wgsl_expressions.proofs.Trees.{tree_of_binary, tree_of_call, tree_of_literal}
use Rattle.wgsl_to_expr.specs.Written.{call_of}

pub call_is : (x : FunctionCallOf Expression) (ty : TypeExpressionOf Expression) (ident : Ident) (name : List ℕ) (arguments : List (Spanned Expression)) →
    x ≡ record { ty = ty; arguments = arguments } → ty ≡ record { path = None; ident = ident; template_args = None } → ident.name ≡ name →
    tree (FunctionCall x) ≡ call_of name (map node_tree arguments)
call_is x ty ident name arguments x_is ty_is name_is =
    tree_of_call x
    ∙ ap (call_layer tree) x_is
    ∙ ap (λ t. call (type_tree t) (exps (map node_tree arguments))) ty_is
    ∙ ap (λ n. call (simple None n) (exps (map node_tree arguments))) name_is

pub difference_is : (a b : Spanned Expression) (x : Expression) → a.node ≡ x → b.node ≡ Literal (AbstractInt (pos 1)) →
    tree (Binary (record { operator = Subtraction; left = a; right = b })) ≡ binary Subtraction (tree x) (literal (AbstractInt (pos 1)))
difference_is a b x left_is right_is =
    tree_of_binary _ ∙ (λ i. binary Subtraction (ap tree left_is i) ((ap tree right_is ∙ tree_of_literal (AbstractInt (pos 1))) i))
