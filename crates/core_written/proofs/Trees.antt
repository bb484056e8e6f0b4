-- The trees of the expressions that are written.
use Rattle.std.proofs.Common.{◌≡◌, ap, ◌∙◌, List, [], ◌∷◌, map, None, pos}
use Rattle.std.specs.Prelude.{codes}
use Rattle.wgsl_path.specs.declared.span.Spanned.{Spanned}
use Rattle.wgsl_path.specs.declared.ident.Ident.{Ident}
use Rattle.wgsl_words.specs.declared.operators.UnaryOperator.TheVariants.{Negation}
use Rattle.wgsl_words.specs.declared.operators.BinaryOperator.TheVariants.{Subtraction, Equality}
use Rattle.core_syntax.specs.declared.expression.LiteralExpression.TheVariants.{AbstractInt}
use Rattle.core_syntax.specs.declared.expression.Expression.{Expression}
use Rattle.core_syntax.specs.declared.expression.Expression.TheVariants.{Binary, FunctionCall}
use Rattle.core_syntax.specs.Tree.{exps, literal, parenthesized, unary, binary, call, nil, cons, simple}
use Rattle.core_syntax.specs.View.{tree, node_tree}
use Rattle.core_syntax.proofs.Trees.{tree_of_binary, tree_of_call}
use Rattle.core_meaning.specs.Written.{least_signed, least_abstract, equals_zero}

pub least_signed_is : (ident : Ident) (arguments : List (Spanned Expression)) (e : Expression) (n : Spanned Expression) (l : Expression) →
    ident.name ≡ codes "i32" → arguments ≡ n ∷ [] → n.node ≡ e → tree e ≡ unary Negation (tree l) → tree l ≡ literal (AbstractInt (pos 2147483648)) →
    tree (FunctionCall (record { ty = record { path = None; ident = ident; template_args = None }; arguments = arguments })) ≡ least_signed
least_signed_is ident arguments e n l name_is list_is node_is minus_is literal_is =
    tree_of_call (record { ty = record { path = None; ident = ident; template_args = None }; arguments = arguments })
    ∙ (λ i. call (simple None (name_is i)) (exps (map node_tree (list_is i))))
    ∙ ap (λ t. call (simple None (codes "i32")) (cons t nil)) (ap tree node_is ∙ minus_is ∙ ap (unary Negation) literal_is)

pub difference_is : (a b : Spanned Expression) (x y l : Expression) → a.node ≡ x → b.node ≡ y → tree x ≡ unary Negation (tree l) → tree l ≡ literal (AbstractInt (pos 9223372036854775807)) → tree y ≡ literal (AbstractInt (pos 1)) →
    parenthesized (tree (Binary (record { operator = Subtraction; left = a; right = b }))) ≡ least_abstract
difference_is a b x y l left_is right_is minus_is literal_is one_is =
    ap parenthesized (tree_of_binary _ ∙ (λ i. binary Subtraction ((ap tree left_is ∙ minus_is ∙ ap (unary Negation) literal_is) i) ((ap tree right_is ∙ one_is) i)))

pub comparison_is : (a b : Spanned Expression) (x y : Expression) → a.node ≡ x → b.node ≡ y → tree x ≡ literal (AbstractInt (pos 0)) → parenthesized (tree (Binary (record { operator = Equality; left = a; right = b }))) ≡ equals_zero (tree y)
comparison_is a b x y left_is right_is zero_is = ap parenthesized (tree_of_binary _ ∙ (λ i. binary Equality ((ap tree left_is ∙ zero_is) i) (tree (right_is i))))
