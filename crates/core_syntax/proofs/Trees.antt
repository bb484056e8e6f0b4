-- The tree of each kind of expression, from the trees of its parts.
use Rattle.std.proofs.Common.{◌≡◌, refl, ap, ◌∙◌, List, [], ◌∷◌, map, Option, Some, None}
use Rattle.wgsl_path.specs.declared.span.Spanned.{Spanned}
use Rattle.wgsl_path.specs.declared.ident.Ident.{Ident}
use Rattle.wgsl_path.specs.declared.path.ModulePath.{ModulePath}
use Rattle.core_syntax.specs.declared.expression.LiteralExpression.{LiteralExpression}
use Rattle.core_syntax.specs.declared.expression.ParenthesizedExpressionOf.{ParenthesizedExpressionOf}
use Rattle.core_syntax.specs.declared.expression.UnaryExpressionOf.{UnaryExpressionOf}
use Rattle.core_syntax.specs.declared.expression.BinaryExpressionOf.{BinaryExpressionOf}
use Rattle.core_syntax.specs.declared.expression.FunctionCallOf.{FunctionCallOf}
use Rattle.core_syntax.specs.declared.expression.TypeExpressionOf.{TypeExpressionOf}
use Rattle.core_syntax.specs.declared.expression.TemplateArgOf.{TemplateArgOf}
use Rattle.core_syntax.specs.declared.expression.Expression.{Expression, out-Expression, map-Expression, fold_out-Expression}
use Rattle.core_syntax.specs.declared.expression.Expression.TheOpen.{Expression-F}
use Rattle.core_syntax.specs.declared.expression.Expression.TheVariants.{Literal, outs-Literal, Parenthesized, outs-Parenthesized, Unary, outs-Unary, Binary, outs-Binary, FunctionCall, outs-FunctionCall, TypeOrIdentifier, outs-TypeOrIdentifier}
use Rattle.core_syntax.specs.Tree.{Exp, literal, parenthesized, unary, binary, call, named, exps, simple, templated}
use Rattle.core_syntax.specs.View.{type_layer, call_layer, layer, tree, node_tree, type_tree}

map-map : {A B C : Type 0} (f : B → C) (h : A → B) (xs : List A) → map f (map h xs) ≡ map (λ x. f (h x)) xs
map-map f h [] = refl
map-map f h (x ∷ xs) = ap (λ t. f (h x) ∷ t) (map-map f h xs)

module _ {A : Type 0} (f : A → Exp) where
  abbrev node_map : Spanned A → Spanned Exp
  node_map n = record { node = f n.node; span = n.span }

  abbrev argument_map : TemplateArgOf A → TemplateArgOf Exp
  argument_map a = record { expression = node_map a.expression }

  type-map : (p : Option ModulePath) (i : Ident) (o : Option (List (TemplateArgOf A)))
      → let t : TypeExpressionOf A = record { path = p; ident = i; template_args = o } in
      layer (λ x. x) (map-Expression A Exp f (Expression-F.TypeOrIdentifier t)) ≡ named (type_layer f t)
  type-map p i None = refl
  type-map p i (Some args) = ap (λ t. named (templated p i.name (exps t))) (map-map (λ a. a.expression.node) argument_map args)

  call-map : (p : Option ModulePath) (i : Ident) (o : Option (List (TemplateArgOf A))) (args : List (Spanned A))
      → let x : FunctionCallOf A = record { ty = record { path = p; ident = i; template_args = o }; arguments = args } in
      layer (λ x. x) (map-Expression A Exp f (Expression-F.FunctionCall x)) ≡ call_layer f x
  call-map p i None args = ap (λ t. call (simple p i.name) (exps t)) (map-map (λ a. a.node) node_map args)
  call-map p i (Some ts) args = λ k. call (templated p i.name (exps (map-map (λ a. a.expression.node) argument_map ts k))) (exps (map-map (λ a. a.node) node_map args k))

  pub layer-map : (x : Expression-F A) → layer (λ x. x) (map-Expression A Exp f x) ≡ layer f x
  layer-map (Expression-F.Literal l) = refl
  layer-map (Expression-F.Parenthesized x) = refl
  layer-map (Expression-F.Unary x) = refl
  layer-map (Expression-F.Binary x) = refl
  layer-map (Expression-F.FunctionCall x) = call-map x.ty.path x.ty.ident x.ty.template_args x.arguments
  layer-map (Expression-F.TypeOrIdentifier t) = type-map t.path t.ident t.template_args

pub tree_out : (e : Expression) → tree e ≡ layer tree (out-Expression e)
tree_out e = fold_out-Expression Exp (layer (λ x. x)) e ∙ layer-map tree (out-Expression e)

pub tree_of_literal : (l : LiteralExpression) → tree (Literal l) ≡ literal l
tree_of_literal l = tree_out (Literal l) ∙ ap (layer tree) (outs-Literal l)

pub tree_of_parenthesized : (x : ParenthesizedExpressionOf Expression) → tree (Parenthesized x) ≡ parenthesized (node_tree x.expression)
tree_of_parenthesized x = tree_out (Parenthesized x) ∙ ap (layer tree) (outs-Parenthesized x)

pub tree_of_unary : (x : UnaryExpressionOf Expression) → tree (Unary x) ≡ unary x.operator (node_tree x.operand)
tree_of_unary x = tree_out (Unary x) ∙ ap (layer tree) (outs-Unary x)

pub tree_of_binary : (x : BinaryExpressionOf Expression) → tree (Binary x) ≡ binary x.operator (node_tree x.left) (node_tree x.right)
tree_of_binary x = tree_out (Binary x) ∙ ap (layer tree) (outs-Binary x)

pub tree_of_call : (x : FunctionCallOf Expression) → tree (FunctionCall x) ≡ call_layer tree x
tree_of_call x = tree_out (FunctionCall x) ∙ ap (layer tree) (outs-FunctionCall x)

pub tree_of_named : (t : TypeExpressionOf Expression) → tree (TypeOrIdentifier t) ≡ named (type_tree t)
tree_of_named t = tree_out (TypeOrIdentifier t) ∙ ap (layer tree) (outs-TypeOrIdentifier t)
