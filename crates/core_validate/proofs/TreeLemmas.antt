-- The tree of a call and of a name, from the trees of their parts, and the names that occur in them.
use Rattle.std.proofs.Common.{◌≡◌, refl, ap, ◌∙◌, ℕ, ◌+◌, length, List, [], ◌∷◌, ◌++◌, map, Option, Some, None, arith}
use Rattle.std.proofs.lemmas.Simd.{map-map}
use Rattle.wgsl_path.specs.declared.span.Spanned.{Spanned}
use Rattle.wgsl_path.specs.declared.ident.Ident.{Ident}
use Rattle.wgsl_path.specs.declared.path.ModulePath.{ModulePath}
use Rattle.core_syntax.specs.declared.expression.FunctionCallOf.{FunctionCallOf}
use Rattle.core_syntax.specs.declared.expression.TypeExpressionOf.{TypeExpressionOf}
use Rattle.core_syntax.specs.declared.expression.TemplateArgOf.{TemplateArgOf}
use Rattle.core_syntax.specs.declared.expression.Expression.{Expression, map-Expression, fold_out-Expression}
use Rattle.core_syntax.specs.declared.expression.Expression.TheOpen.{Expression-F}
use Rattle.core_syntax.specs.declared.expression.Expression.TheVariants.{FunctionCall, outs-FunctionCall, TypeOrIdentifier, outs-TypeOrIdentifier}
use Rattle.core_syntax.specs.Tree.{Exp, call, named, exps, simple, templated}
use Rattle.core_syntax.specs.View.{type_layer, call_layer, layer, tree, node_tree, type_tree}
use Rattle.core_syntax.specs.View.{parameter_tree}
use Rattle.core_syntax.specs.declared.declaration.FormalParameter.{FormalParameter}
use Rattle.core_validate.specs.Lookups.{local_names}
use Rattle.core_validate.specs.Scopes.{Name, count, exp_places, all_places, type_places}

module _ {A : Type 0} (f : A → Exp) where
  abbrev node_map : Spanned A → Spanned Exp
  node_map n = record { node = f n.node; span = n.span }

  abbrev argument_map : TemplateArgOf A → TemplateArgOf Exp
  argument_map a = record { expression = node_map a.expression }

  type-map : (p : Option ModulePath) (i : Ident) (o : Option (List (TemplateArgOf A)))
      → let t : TypeExpressionOf A = record { path = p; ident = i; template_args = o } in
      layer (λ x. x) (map-Expression A Exp f (Expression-F.TypeOrIdentifier t)) ≡ named (type_layer f t)
  type-map p i None = refl
  type-map p i (Some args) = ap (λ t. named (templated p i.name (exps t))) (map-map (λ a. a.expression.node) argument_map args)

  call-map : (p : Option ModulePath) (i : Ident) (o : Option (List (TemplateArgOf A))) (args : List (Spanned A))
      → let x : FunctionCallOf A = record { ty = record { path = p; ident = i; template_args = o }; arguments = args } in
      layer (λ x. x) (map-Expression A Exp f (Expression-F.FunctionCall x)) ≡ call_layer f x
  call-map p i None args = ap (λ t. call (simple p i.name) (exps t)) (map-map (λ a. a.node) node_map args)
  call-map p i (Some ts) args = λ k. call (templated p i.name (exps (map-map (λ a. a.expression.node) argument_map ts k))) (exps (map-map (λ a. a.node) node_map args k))

tree_of_call : (x : FunctionCallOf Expression) → tree (FunctionCall x) ≡ call_layer tree x
tree_of_call x =
    fold_out-Expression Exp (layer (λ x. x)) (FunctionCall x)
    ∙ ap (λ y. layer (λ x. x) (map-Expression Expression Exp tree y)) (outs-FunctionCall x)
    ∙ call-map tree x.ty.path x.ty.ident x.ty.template_args x.arguments

tree_of_named : (t : TypeExpressionOf Expression) → tree (TypeOrIdentifier t) ≡ named (type_tree t)
tree_of_named t =
    fold_out-Expression Exp (layer (λ x. x)) (TypeOrIdentifier t)
    ∙ ap (λ y. layer (λ x. x) (map-Expression Expression Exp tree y)) (outs-TypeOrIdentifier t)
    ∙ type-map tree t.path t.ident t.template_args

pub count-exps : {A : Type 0} (f : A → Exp) (xs : List A) → count (exps (map f xs)) ≡ length xs
count-exps f [] = refl
count-exps f (x ∷ xs) = ap (λ n. 1 + n) (count-exps f xs) ∙ omega arith

pub places_of_named : (global : Name → Option ℕ) (locals : List Name) (t : TypeExpressionOf Expression)
    → exp_places global locals (tree (TypeOrIdentifier t)) ≡ type_places global locals None (type_tree t)
places_of_named global locals t = ap (exp_places global locals) (tree_of_named t)

pub places_of_call : (global : Name → Option ℕ) (locals : List Name) (x : FunctionCallOf Expression)
    → exp_places global locals (tree (FunctionCall x))
    ≡ type_places global locals (Some (length x.arguments)) (type_tree x.ty) ++ all_places global locals (exps (map node_tree x.arguments))
places_of_call global locals x =
    ap (exp_places global locals) (tree_of_call x)
    ∙ ap (λ n. type_places global locals (Some n) (type_tree x.ty) ++ all_places global locals (exps (map node_tree x.arguments))) (count-exps node_tree x.arguments)

pub names_of_trees : (ps : List FormalParameter) → map (λ p. p.name) (map parameter_tree ps) ≡ local_names ps
names_of_trees ps = map-map (λ p. p.name) parameter_tree ps
