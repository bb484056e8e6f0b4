-- The text of each kind of expression, from its parts.
use Rattle.std.proofs.Common.{◌≡◌, refl, sym, ap, List, [], ◌∷◌, ◌++◌, map, codes, Option, Some, None}
use Rattle.std.specs.Option.{option_map}
use Rattle.std.proofs.lemmas.List.{append-nil}
use Rattle.std.specs.List.{flat_map}
use Rattle.wgsl_expressions.specs.declared.expression.LiteralExpression.{LiteralExpression}
use Rattle.wgsl_expressions.specs.declared.expression.ParenthesizedExpressionOf.{ParenthesizedExpressionOf}
use Rattle.wgsl_expressions.specs.declared.expression.NamedComponentExpressionOf.{NamedComponentExpressionOf}
use Rattle.wgsl_expressions.specs.declared.expression.IndexingExpressionOf.{IndexingExpressionOf}
use Rattle.wgsl_expressions.specs.declared.expression.UnaryExpressionOf.{UnaryExpressionOf}
use Rattle.wgsl_expressions.specs.declared.expression.BinaryExpressionOf.{BinaryExpressionOf}
use Rattle.wgsl_expressions.specs.declared.expression.FunctionCallOf.{FunctionCallOf}
use Rattle.wgsl_expressions.specs.declared.expression.TypeExpressionOf.{TypeExpressionOf}
use Rattle.wgsl_expressions.specs.declared.expression.TemplateArgOf.{TemplateArgOf}
use Rattle.wgsl_expressions.specs.declared.expression.Expression.{Expression}
use Rattle.wgsl_expressions.specs.declared.expression.Expression.TheVariants.{Literal, Parenthesized, NamedComponent, Indexing, Unary, Binary, FunctionCall, TypeOrIdentifier}
use Rattle.wgsl_expressions.specs.Tree.{Exp, parenthesized, component, indexed, unary, binary, exps}
use Rattle.wgsl_expressions.specs.View.{typed, call_layer, tree, node_tree, type_tree}
use Rattle.wgsl_expressions.specs.Print.{literal_text, commas, exp_text, exps_text, more_text, typ_text, brackets_text, qualifier_text}
use Rattle.wgsl_expressions.proofs.Trees.{tree_of_literal, tree_of_parenthesized, tree_of_component, tree_of_indexed, tree_of_unary, tree_of_binary, tree_of_call, tree_of_named}

pub text_of_literal : (l : LiteralExpression) → exp_text (tree (Literal l)) ≡ literal_text l
text_of_literal l = ap exp_text (tree_of_literal l)

pub text_of_parenthesized : (x : ParenthesizedExpressionOf Expression) → exp_text (tree (Parenthesized x)) ≡ exp_text (parenthesized (node_tree x.expression))
text_of_parenthesized x = ap exp_text (tree_of_parenthesized x)

pub text_of_component : (x : NamedComponentExpressionOf Expression) → exp_text (tree (NamedComponent x)) ≡ exp_text (component (node_tree x.base) x.component.name)
text_of_component x = ap exp_text (tree_of_component x)

pub text_of_indexed : (x : IndexingExpressionOf Expression) → exp_text (tree (Indexing x)) ≡ exp_text (indexed (node_tree x.base) (node_tree x.index))
text_of_indexed x = ap exp_text (tree_of_indexed x)

pub text_of_unary : (x : UnaryExpressionOf Expression) → exp_text (tree (Unary x)) ≡ exp_text (unary x.operator (node_tree x.operand))
text_of_unary x = ap exp_text (tree_of_unary x)

pub text_of_binary : (x : BinaryExpressionOf Expression) → exp_text (tree (Binary x)) ≡ exp_text (binary x.operator (node_tree x.left) (node_tree x.right))
text_of_binary x = ap exp_text (tree_of_binary x)

pub text_of_call : (x : FunctionCallOf Expression) → exp_text (tree (FunctionCall x)) ≡ exp_text (call_layer tree x)
text_of_call x = ap exp_text (tree_of_call x)

pub text_of_named : (t : TypeExpressionOf Expression) → exp_text (tree (TypeOrIdentifier t)) ≡ typ_text (type_tree t)
text_of_named t = ap exp_text (tree_of_named t)

more_text_flat : {A : Type 0} (f : A → Exp) (xs : List A) → more_text (exps (map f xs)) ≡ flat_map (λ y. codes ", " ++ exp_text (f y)) xs
more_text_flat f [] = refl
more_text_flat f (x ∷ xs) = ap (λ t. (codes ", " ++ exp_text (f x)) ++ t) (more_text_flat f xs)

pub exps_text_commas : {A : Type 0} (f : A → Exp) (xs : List A) → exps_text (exps (map f xs)) ≡ commas (λ y. exp_text (f y)) xs
exps_text_commas f [] = refl
exps_text_commas f (x ∷ xs) = ap (λ t. exp_text (f x) ++ t) (more_text_flat f xs)

pub typed_text : (t : TypeExpressionOf Expression)
    → typ_text (type_tree t) ≡ qualifier_text t.path ++ t.ident.name ++ brackets_text (option_map (λ args. exps (map (λ a. node_tree a.expression) args)) t.template_args)
typed_text t = by_arguments t.template_args
  where
    by_arguments : (o : Option (List (TemplateArgOf Expression)))
        → typ_text (typed tree t.path t.ident.name o) ≡ qualifier_text t.path ++ t.ident.name ++ brackets_text (option_map (λ args. exps (map (λ a. node_tree a.expression) args)) o)
    by_arguments None = sym (append-nil (qualifier_text t.path ++ t.ident.name))
    by_arguments (Some args) = refl
