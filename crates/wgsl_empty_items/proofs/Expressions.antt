-- The derived equality of expressions, by the variants, and that it is the test of their trees.
use Rattle.std.proofs.Common.{◌≡◌, refl, sym, ap, ◌∙◌, subst, Bool, true, false, ◌&&◌, List, [], ◌∷◌, map, Option, Some, None}
use Rattle.std.specs.Bool.{Decides}
use Rattle.std.specs.Option.{option_eq}
use Rattle.std.specs.Str.{bytes_eq}
use Rattle.std.specs.Cmp.Lexicographic.{pointwise}
use Rattle.wgsl_words.specs.contracts.operators.UnaryOperatorPartialEq.TheImpl as u
use Rattle.wgsl_words.specs.contracts.operators.BinaryOperatorPartialEq.TheImpl as b
use Rattle.wgsl_path.specs.declared.span.Spanned.{Spanned}
use Rattle.wgsl_path.specs.declared.ident.Ident.{Ident}
use Rattle.wgsl_path.specs.declared.path.ModulePath.{ModulePath}
use Rattle.wgsl_path.specs.contracts.path.ModulePathPartialEq.TheImpl as path
use Rattle.wgsl_expressions.specs.contracts.expression.ExpressionPartialEq.TheImpl as e
use Rattle.wgsl_expressions.specs.contracts.expression.ExpressionPartialEq.TheImpl.Laws as law
use Rattle.wgsl_expressions.specs.declared.expression.FunctionCallOf.{FunctionCallOf}
use Rattle.wgsl_expressions.specs.declared.expression.TypeExpressionOf.{TypeExpressionOf}
use Rattle.wgsl_expressions.specs.declared.expression.TemplateArgOf.{TemplateArgOf}
use Rattle.wgsl_expressions.specs.declared.expression.Expression.{Expression, out-Expression, roll-Expression, out-roll-Expression, map-Expression, ind-Expression}
use Rattle.wgsl_expressions.specs.declared.expression.Expression.TheOpen.{Expression-F}
use Rattle.wgsl_expressions.specs.declared.expression.Expression.TheVariants.{FunctionCall, outs-FunctionCall, TypeOrIdentifier, outs-TypeOrIdentifier}
use Rattle.wgsl_expressions.specs.Tree.{exps}
use Rattle.wgsl_expressions.specs.View.{layer, tree, node_tree, type_tree}
use Rattle.wgsl_expressions.proofs.Trees.{tree_out, tree_of_call, tree_of_named}
use Rattle.wgsl_empty_items.specs.Expressions.{same_argument, same_type, same_layer}
use Rattle.wgsl_empty_items.proofs.ExpressionTest.{same_exp, same_exps, same_typ, exp_decides, typ_decides}

opens : (a b : Expression) (x y : Expression-F Expression) → out-Expression a ≡ x → out-Expression b ≡ y → law.unfolded a b ≡ same_layer e.eq-value.it x y
opens a b (Expression-F.Literal x) (Expression-F.Literal y) p q = rw p (rw q refl)
opens a b (Expression-F.Parenthesized x) (Expression-F.Parenthesized y) p q = rw p (rw q refl)
opens a b (Expression-F.NamedComponent x) (Expression-F.NamedComponent y) p q = rw p (rw q refl)
opens a b (Expression-F.Indexing x) (Expression-F.Indexing y) p q = rw p (rw q refl)
opens a b (Expression-F.Unary x) (Expression-F.Unary y) p q = rw p (rw q refl)
opens a b (Expression-F.Binary x) (Expression-F.Binary y) p q = rw p (rw q refl)
opens a b (Expression-F.FunctionCall x) (Expression-F.FunctionCall y) p q = rw p (rw q refl)
opens a b (Expression-F.TypeOrIdentifier x) (Expression-F.TypeOrIdentifier y) p q = rw p (rw q refl)
opens a b x y p q = rw p (rw q refl)

pub same_out : (a b : Expression) → e.eq-value.it a b ≡ same_layer e.eq-value.it (out-Expression a) (out-Expression b)
same_out a b = law.is a b ∙ opens a b (out-Expression a) (out-Expression b) refl refl

abbrev pub equal : Expression → Expression → Bool
equal = e.eq-value.it

-- the equality of a layer is the test of its tree, where that of its parts is
module _ {A : Type 0} (f : A → Expression) (child : (x : A) (y : Expression) → equal (f x) y ≡ same_exp (tree (f x)) (tree y)) where
  abbrev node_at : Spanned A → Spanned Expression
  node_at n = record { node = f n.node; span = n.span }

  abbrev argument_at : TemplateArgOf A → TemplateArgOf Expression
  argument_at a = record { expression = node_at a.expression }

  nodes_agree : (xs : List (Spanned A)) (ys : List (Spanned Expression))
      → pointwise (λ x y. equal x.node y.node) (map node_at xs) ys ≡ same_exps (exps (map (λ x. tree x.node) (map node_at xs))) (exps (map (λ y. tree y.node) ys))
  nodes_agree [] [] = refl
  nodes_agree [] (y ∷ ys) = refl
  nodes_agree (x ∷ xs) [] = refl
  nodes_agree (x ∷ xs) (y ∷ ys) = λ i. child x.node y.node i && nodes_agree xs ys i

  arguments_agree : (xs : List (TemplateArgOf A)) (ys : List (TemplateArgOf Expression))
      → pointwise (same_argument equal) (map argument_at xs) ys ≡ same_exps (exps (map (λ x. tree x.expression.node) (map argument_at xs))) (exps (map (λ y. tree y.expression.node) ys))
  arguments_agree [] [] = refl
  arguments_agree [] (y ∷ ys) = refl
  arguments_agree (x ∷ xs) [] = refl
  arguments_agree (x ∷ xs) (y ∷ ys) = λ i. child x.expression.node y.expression.node i && arguments_agree xs ys i

  abbrev named_at : Option ModulePath → Ident → Option (List (TemplateArgOf A)) → Expression-F Expression
  named_at p i o = map-Expression A Expression f (Expression-F.TypeOrIdentifier (record { path = p; ident = i; template_args = o }))

  abbrev named_of : Option ModulePath → Ident → Option (List (TemplateArgOf Expression)) → Expression-F Expression
  named_of p i o = Expression-F.TypeOrIdentifier (record { path = p; ident = i; template_args = o })

  abbrev front : Option ModulePath → Option ModulePath → Ident → Ident → Bool → Bool
  front p q i j rest = option_eq path.eq-value.it p q && (bytes_eq i.name j.name && rest)

  types_agree : (p q : Option ModulePath) (i j : Ident) (o : Option (List (TemplateArgOf A))) (r : Option (List (TemplateArgOf Expression)))
      → same_layer equal (named_at p i o) (named_of q j r) ≡ same_exp (layer tree (named_at p i o)) (layer tree (named_of q j r))
  types_agree p q i j None None = refl
  types_agree p q i j None (Some ys) = refl
  types_agree p q i j (Some xs) None = refl
  types_agree p q i j (Some xs) (Some ys) = ap (front p q i j) (arguments_agree xs ys)

  abbrev call_at : Option ModulePath → Ident → Option (List (TemplateArgOf A)) → List (Spanned A) → Expression-F Expression
  call_at p i o args = map-Expression A Expression f (Expression-F.FunctionCall (record { ty = record { path = p; ident = i; template_args = o }; arguments = args }))

  abbrev call_of : Option ModulePath → Ident → Option (List (TemplateArgOf Expression)) → List (Spanned Expression) → Expression-F Expression
  call_of p i o args = Expression-F.FunctionCall (record { ty = record { path = p; ident = i; template_args = o }; arguments = args })

  calls_agree : (p q : Option ModulePath) (i j : Ident) (o : Option (List (TemplateArgOf A))) (r : Option (List (TemplateArgOf Expression))) (xs : List (Spanned A)) (ys : List (Spanned Expression))
      → same_layer equal (call_at p i o xs) (call_of q j r ys) ≡ same_exp (layer tree (call_at p i o xs)) (layer tree (call_of q j r ys))
  calls_agree p q i j None None xs ys = ap (λ rest. front p q i j true && rest) (nodes_agree xs ys)
  calls_agree p q i j None (Some us) xs ys = ap (λ rest. front p q i j false && rest) (nodes_agree xs ys)
  calls_agree p q i j (Some ts) None xs ys = ap (λ rest. front p q i j false && rest) (nodes_agree xs ys)
  calls_agree p q i j (Some ts) (Some us) xs ys = λ k. front p q i j (arguments_agree ts us k) && nodes_agree xs ys k

  layers_agree : (x : Expression-F A) (y : Expression-F Expression)
      → same_layer equal (map-Expression A Expression f x) y ≡ same_exp (layer tree (map-Expression A Expression f x)) (layer tree y)
  layers_agree (Expression-F.Literal x) (Expression-F.Literal y) = refl
  layers_agree (Expression-F.Parenthesized x) (Expression-F.Parenthesized y) = child x.expression.node y.expression.node
  layers_agree (Expression-F.NamedComponent x) (Expression-F.NamedComponent y) = ap (λ base. base && bytes_eq x.component.name y.component.name) (child x.base.node y.base.node)
  layers_agree (Expression-F.Indexing x) (Expression-F.Indexing y) = λ i. child x.base.node y.base.node i && child x.index.node y.index.node i
  layers_agree (Expression-F.Unary x) (Expression-F.Unary y) = ap (λ operand. u.eq-value.it x.operator y.operator && operand) (child x.operand.node y.operand.node)
  layers_agree (Expression-F.Binary x) (Expression-F.Binary y) = λ i.
      b.eq-value.it x.operator y.operator && (child x.left.node y.left.node i && child x.right.node y.right.node i)
  layers_agree (Expression-F.FunctionCall x) (Expression-F.FunctionCall y) =
      calls_agree x.ty.path y.ty.path x.ty.ident y.ty.ident x.ty.template_args y.ty.template_args x.arguments y.arguments
  layers_agree (Expression-F.TypeOrIdentifier x) (Expression-F.TypeOrIdentifier y) = types_agree x.path y.path x.ident y.ident x.template_args y.template_args
  layers_agree x y = refl

abbrev Agrees : Expression → Type 0
Agrees a = (b : Expression) → equal a b ≡ same_exp (tree a) (tree b)

abbrev Shown : Type 0
Shown = (a : Expression) × Agrees a

abbrev shown : Shown → Expression
shown c = c.0

of_layer : (y : Expression-F Shown) → Agrees (roll-Expression (map-Expression Shown Expression shown y))
of_layer y b =
    let x = map-Expression Shown Expression shown y in
    let open_x = out-roll-Expression x in
    same_out (roll-Expression x) b
    ∙ ap (λ z. same_layer equal z (out-Expression b)) open_x
    ∙ layers_agree shown (λ c. c.1) y (out-Expression b)
    ∙ ap (λ z. same_exp (layer tree z) (layer tree (out-Expression b))) (sym open_x)
    ∙ (λ i. same_exp (sym (tree_out (roll-Expression x)) i) (sym (tree_out b) i))

-- equality of expressions is the test of their trees
pub equality_is_of_trees : (a b : Expression) → equal a b ≡ same_exp (tree a) (tree b)
equality_is_of_trees = ind-Expression Agrees (λ x y is. subst (λ z. Agrees (roll-Expression z)) is (of_layer y))

pub expressions_decide : (a b : Expression) → Decides (equal a b) (tree a ≡ tree b)
expressions_decide a b = subst (λ test. Decides test (tree a ≡ tree b)) (sym (equality_is_of_trees a b)) (exp_decides (tree a) (tree b))

-- equality of types is the test of theirs, as of expressions that are types
pub equality_of_types_is_of_trees : (a b : TypeExpressionOf Expression) → same_type equal a b ≡ same_typ (type_tree a) (type_tree b)
equality_of_types_is_of_trees a b =
    sym (same_out (TypeOrIdentifier a) (TypeOrIdentifier b) ∙ (λ i. same_layer equal (outs-TypeOrIdentifier a i) (outs-TypeOrIdentifier b i)))
    ∙ equality_is_of_trees (TypeOrIdentifier a) (TypeOrIdentifier b)
    ∙ (λ i. same_exp (tree_of_named a i) (tree_of_named b i))

pub types_decide : (a b : TypeExpressionOf Expression) → Decides (same_type equal a b) (type_tree a ≡ type_tree b)
types_decide a b = subst (λ test. Decides test (type_tree a ≡ type_tree b)) (sym (equality_of_types_is_of_trees a b)) (typ_decides (type_tree a) (type_tree b))

pub equality_of_calls_is_of_trees : (a b : FunctionCallOf Expression)
    → (same_type equal a.ty b.ty && pointwise (λ x y. equal x.node y.node) a.arguments b.arguments)
    ≡ (same_typ (type_tree a.ty) (type_tree b.ty) && same_exps (exps (map node_tree a.arguments)) (exps (map node_tree b.arguments)))
equality_of_calls_is_of_trees a b =
    sym (same_out (FunctionCall a) (FunctionCall b) ∙ (λ i. same_layer equal (outs-FunctionCall a i) (outs-FunctionCall b i)))
    ∙ equality_is_of_trees (FunctionCall a) (FunctionCall b)
    ∙ (λ i. same_exp (tree_of_call a i) (tree_of_call b i))
