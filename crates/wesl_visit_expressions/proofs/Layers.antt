-- What an expression's parts have, behind a map of these parts.
use Rattle.std.proofs.Common.{◌≡◌, refl, ap, ◌∙◌, subst, List, [], ◌∷◌, ◌++◌, map, Option, Some, None}
use Rattle.std.specs.List.{flat_map}
use Rattle.wgsl_path.specs.declared.span.Spanned.{Spanned}
use Rattle.wgsl_path.specs.declared.ident.Ident.{Ident}
use Rattle.wgsl_path.specs.declared.path.ModulePath.{ModulePath}
use Rattle.wgsl_expressions.specs.declared.expression.TypeExpressionOf.{TypeExpressionOf}
use Rattle.wgsl_expressions.specs.declared.expression.TemplateArgOf.{TemplateArgOf}
use Rattle.wgsl_expressions.specs.declared.expression.Expression.{Expression, out-Expression, roll-Expression, out-roll-Expression, map-Expression, fold_out-Expression, ind-Expression}
use Rattle.wgsl_expressions.specs.declared.expression.Expression.TheOpen.{Expression-F}
use Rattle.wgsl_expressions.specs.declared.expression.Expression.TheVariants as code
use Rattle.wesl_visit_expressions.specs.Types.{whole_argument, in_part, in_layer, Read, read_layer, read, types_in, in_node, in_call, blank, around_part, around_layer, around_types}

module _ {A B : Type 0} (f : A → B) where
  abbrev node_map : Spanned A → Spanned B
  node_map n = record { node = f n.node; span = n.span }

  abbrev argument_map : TemplateArgOf A → TemplateArgOf B
  argument_map a = record { expression = node_map a.expression }

abbrev type_of : {A : Type 0} → Option ModulePath → Ident → Option (List (TemplateArgOf A)) → TypeExpressionOf A
type_of p i o = record { path = p; ident = i; template_args = o }

-- ---- an expression that is read is given as it stands

-- maps of parts, one behind the other, that come to the first alone
module _ {A B C : Type 0} (f : A → B) (g : B → C) (h : A → C) (same : (a : A) → g (f a) ≡ h a) where
  nodes_twice : (xs : List (Spanned A)) → map (node_map g) (map (node_map f) xs) ≡ map (node_map h) xs
  nodes_twice [] = refl
  nodes_twice (x ∷ xs) = λ k. record { node = same x.node k; span = x.span } ∷ nodes_twice xs k

  arguments_twice : (xs : List (TemplateArgOf A)) → map (argument_map g) (map (argument_map f) xs) ≡ map (argument_map h) xs
  arguments_twice [] = refl
  arguments_twice (x ∷ xs) = λ k. record { expression = record { node = same x.expression.node k; span = x.expression.span } } ∷ arguments_twice xs k

  abbrev Twice : Expression-F A → Type 0
  Twice x = map-Expression B C g (map-Expression A B f x) ≡ map-Expression A C h x

  type_twice : (p : Option ModulePath) (i : Ident) (o : Option (List (TemplateArgOf A))) → Twice (Expression-F.TypeOrIdentifier (type_of p i o))
  type_twice p i None = refl
  type_twice p i (Some xs) = λ k. Expression-F.TypeOrIdentifier (type_of p i (Some (arguments_twice xs k)))

  call_twice : (p : Option ModulePath) (i : Ident) (o : Option (List (TemplateArgOf A))) (args : List (Spanned A))
      → Twice (Expression-F.FunctionCall (record { ty = type_of p i o; arguments = args }))
  call_twice p i None args = λ k. Expression-F.FunctionCall (record { ty = type_of p i None; arguments = nodes_twice args k })
  call_twice p i (Some xs) args = λ k. Expression-F.FunctionCall (record { ty = type_of p i (Some (arguments_twice xs k)); arguments = nodes_twice args k })

  layer_twice : (x : Expression-F A) → Twice x
  layer_twice (Expression-F.Literal l) = refl
  layer_twice (Expression-F.Parenthesized x) = λ k. Expression-F.Parenthesized (record { expression = record { node = same x.expression.node k; span = x.expression.span } })
  layer_twice (Expression-F.NamedComponent x) = λ k. Expression-F.NamedComponent (record { base = record { node = same x.base.node k; span = x.base.span }; component = x.component })
  layer_twice (Expression-F.Indexing x) = λ k.
      Expression-F.Indexing (record { base = record { node = same x.base.node k; span = x.base.span }; index = record { node = same x.index.node k; span = x.index.span } })
  layer_twice (Expression-F.Unary x) = λ k. Expression-F.Unary (record { operator = x.operator; operand = record { node = same x.operand.node k; span = x.operand.span } })
  layer_twice (Expression-F.Binary x) = λ k.
      Expression-F.Binary (record { operator = x.operator; left = record { node = same x.left.node k; span = x.left.span }; right = record { node = same x.right.node k; span = x.right.span } })
  layer_twice (Expression-F.FunctionCall x) = call_twice x.ty.path x.ty.ident x.ty.template_args x.arguments
  layer_twice (Expression-F.TypeOrIdentifier t) = type_twice t.path t.ident t.template_args

abbrev given : Read → Expression
given r = r.0

abbrev Kept : Expression → Type 0
Kept e = given (read e) ≡ e

abbrev Part : Type 0
Part = (e : Expression) × Kept e

abbrev bare : Part → Expression
bare p = p.0

opened : (y : Expression-F Part) → Kept (roll-Expression (map-Expression Part Expression bare y))
opened y =
    let x = map-Expression Part Expression bare y in
    ap given (fold_out-Expression Read read_layer (roll-Expression x))
    ∙ ap (λ z. roll-Expression (map-Expression Read Expression given (map-Expression Expression Read read z))) (out-roll-Expression x)
    ∙ ap (λ z. roll-Expression (map-Expression Read Expression given z)) (layer_twice bare read (λ p. read p.0) (λ p. refl) y)
    ∙ ap roll-Expression (layer_twice (λ p. read p.0) given bare (λ p. p.1) y)

-- an expression is given as it stands
pub kept : (e : Expression) → Kept e
kept = ind-Expression Kept (λ x y is. subst (λ z. Kept (roll-Expression z)) is (opened y))

-- ---- the types in a layer

abbrev found : Read → List (TypeExpressionOf Expression)
found r = r.1

nodes_in : (xs : List (Spanned Expression)) → flat_map (in_part given found) (map (node_map read) xs) ≡ flat_map in_node xs
nodes_in [] = refl
nodes_in (x ∷ xs) = ap (λ t. types_in x.node ++ t) (nodes_in xs)

arguments_kept : (xs : List (TemplateArgOf Expression)) → map (whole_argument given found) (map (argument_map read) xs) ≡ xs
arguments_kept [] = refl
arguments_kept (x ∷ xs) = λ k. record { expression = record { node = kept x.expression.node k; span = x.expression.span } } ∷ arguments_kept xs k

-- the types in a layer of expressions
abbrev pub in_expressions : Expression-F Expression → List (TypeExpressionOf Expression)
in_expressions (Expression-F.Literal l) = []
in_expressions (Expression-F.Parenthesized x) = in_node x.expression
in_expressions (Expression-F.NamedComponent x) = in_node x.base
in_expressions (Expression-F.Indexing x) = in_node x.base ++ in_node x.index
in_expressions (Expression-F.Unary x) = in_node x.operand
in_expressions (Expression-F.Binary x) = in_node x.left ++ in_node x.right
in_expressions (Expression-F.FunctionCall x) = in_call x
in_expressions (Expression-F.TypeOrIdentifier t) = t ∷ []

abbrev Same : Expression-F Expression → Type 0
Same x = in_layer given found (map-Expression Expression Read read x) ≡ in_expressions x

type_in : (p : Option ModulePath) (i : Ident) (o : Option (List (TemplateArgOf Expression))) → Same (Expression-F.TypeOrIdentifier (type_of p i o))
type_in p i None = refl
type_in p i (Some xs) = λ k. type_of p i (Some (arguments_kept xs k)) ∷ []

call_in : (p : Option ModulePath) (i : Ident) (o : Option (List (TemplateArgOf Expression))) (args : List (Spanned Expression))
    → Same (Expression-F.FunctionCall (record { ty = type_of p i o; arguments = args }))
call_in p i None args = λ k. type_of p i None ∷ nodes_in args k
call_in p i (Some xs) args = λ k. type_of p i (Some (arguments_kept xs k)) ∷ nodes_in args k

layer_in : (x : Expression-F Expression) → Same x
layer_in (Expression-F.Literal l) = refl
layer_in (Expression-F.Parenthesized x) = refl
layer_in (Expression-F.NamedComponent x) = refl
layer_in (Expression-F.Indexing x) = refl
layer_in (Expression-F.Unary x) = refl
layer_in (Expression-F.Binary x) = refl
layer_in (Expression-F.FunctionCall x) = call_in x.ty.path x.ty.ident x.ty.template_args x.arguments
layer_in (Expression-F.TypeOrIdentifier t) = type_in t.path t.ident t.template_args

pub in_out : (e : Expression) → types_in e ≡ in_expressions (out-Expression e)
in_out e = ap found (fold_out-Expression Read read_layer e) ∙ layer_in (out-Expression e)

-- ---- all but the types in a layer

abbrev as_is : Expression → Expression
as_is x = x

nodes_around : (xs : List (Spanned Expression)) → map (around_part as_is) (map (node_map around_types) xs) ≡ map (around_part around_types) xs
nodes_around [] = refl
nodes_around (x ∷ xs) = ap (λ t. around_part around_types x ∷ t) (nodes_around xs)

abbrev SameAround : Expression-F Expression → Type 0
SameAround x = around_layer as_is (map-Expression Expression Expression around_types x) ≡ around_layer around_types x

type_around : (p : Option ModulePath) (i : Ident) (o : Option (List (TemplateArgOf Expression))) → SameAround (Expression-F.TypeOrIdentifier (type_of p i o))
type_around p i None = refl
type_around p i (Some xs) = refl

call_around : (p : Option ModulePath) (i : Ident) (o : Option (List (TemplateArgOf Expression))) (args : List (Spanned Expression))
    → SameAround (Expression-F.FunctionCall (record { ty = type_of p i o; arguments = args }))
call_around p i None args = λ k. code.FunctionCall (record { ty = blank; arguments = nodes_around args k })
call_around p i (Some xs) args = λ k. code.FunctionCall (record { ty = blank; arguments = nodes_around args k })

layer_around : (x : Expression-F Expression) → SameAround x
layer_around (Expression-F.Literal l) = refl
layer_around (Expression-F.Parenthesized x) = refl
layer_around (Expression-F.NamedComponent x) = refl
layer_around (Expression-F.Indexing x) = refl
layer_around (Expression-F.Unary x) = refl
layer_around (Expression-F.Binary x) = refl
layer_around (Expression-F.FunctionCall x) = call_around x.ty.path x.ty.ident x.ty.template_args x.arguments
layer_around (Expression-F.TypeOrIdentifier t) = type_around t.path t.ident t.template_args

pub around_out : (e : Expression) → around_types e ≡ around_layer around_types (out-Expression e)
around_out e = fold_out-Expression Expression (around_layer as_is) e ∙ layer_around (out-Expression e)
