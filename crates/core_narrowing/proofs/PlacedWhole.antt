-- The places inside each kind of expression of the whole language, from those inside its parts.
use Rattle.std.proofs.Common.{◌≡◌, refl, ap, ◌∙◌, List, ◌++◌, Option, Some, None}
use Rattle.wgsl_path.specs.declared.span.Span.{Span}
use Rattle.wgsl_path.specs.declared.span.Spanned.{Spanned}
use Rattle.wgsl_path.specs.declared.ident.Ident.{Ident}
use Rattle.wgsl_path.specs.declared.path.ModulePath.{ModulePath}
use Rattle.wgsl_expressions.specs.declared.expression.ParenthesizedExpressionOf.{ParenthesizedExpressionOf}
use Rattle.wgsl_expressions.specs.declared.expression.UnaryExpressionOf.{UnaryExpressionOf}
use Rattle.wgsl_expressions.specs.declared.expression.FunctionCallOf.{FunctionCallOf}
use Rattle.wgsl_expressions.specs.declared.expression.TypeExpressionOf.{TypeExpressionOf}
use Rattle.wgsl_expressions.specs.declared.expression.TemplateArgOf.{TemplateArgOf}
use Rattle.wgsl_expressions.specs.declared.expression.Expression.{Expression, out-Expression, map-Expression, fold_out-Expression}
use Rattle.wgsl_expressions.specs.declared.expression.Expression.TheOpen.{Expression-F}
use Rattle.wgsl_expressions.specs.declared.expression.Expression.TheVariants.{Parenthesized, outs-Parenthesized, Unary, outs-Unary, FunctionCall, outs-FunctionCall, TypeOrIdentifier, outs-TypeOrIdentifier}
use Rattle.wgsl_simple_statements.specs.declared.statement.ReturnStatement.{ReturnStatement}
use Rattle.wgsl_statements.specs.declared.statement.Statement.TheVariants.{Void, outs-Void, Return, outs-Return}
use Rattle.core_narrowing.specs.Places.{at}
use Rattle.core_narrowing.proofs.Placed.{flat_map-map}
use Rattle.core_narrowing.specs.ModulePlaces.{in_argument, type_layer, call_layer, layer, in_expression, in_node, in_type, in_return, in_layer, in_statement}

module _ {A : Type 0} (f : A → List Span) where
  abbrev node_map : Spanned A → Spanned (List Span)
  node_map n = record { node = f n.node; span = n.span }

  abbrev argument_map : TemplateArgOf A → TemplateArgOf (List Span)
  argument_map a = record { expression = node_map a.expression }

  call-map : (p : Option ModulePath) (i : Ident) (o : Option (List (TemplateArgOf A))) (args : List (Spanned A))
      → let x : FunctionCallOf A = record { ty = record { path = p; ident = i; template_args = o }; arguments = args } in
      layer (λ x. x) (map-Expression A (List Span) f (Expression-F.FunctionCall x)) ≡ call_layer f x
  call-map p i None args = flat_map-map (at (λ x. x)) node_map args
  call-map p i (Some ts) args = λ k. flat_map-map (in_argument (λ x. x)) argument_map ts k ++ flat_map-map (at (λ x. x)) node_map args k

  named-map : (p : Option ModulePath) (i : Ident) (o : Option (List (TemplateArgOf A)))
      → let t : TypeExpressionOf A = record { path = p; ident = i; template_args = o } in
      layer (λ x. x) (map-Expression A (List Span) f (Expression-F.TypeOrIdentifier t)) ≡ type_layer f t
  named-map p i None = refl
  named-map p i (Some args) = flat_map-map (in_argument (λ x. x)) argument_map args

  layer-map : (x : Expression-F A) → layer (λ x. x) (map-Expression A (List Span) f x) ≡ layer f x
  layer-map (Expression-F.Literal l) = refl
  layer-map (Expression-F.Parenthesized x) = refl
  layer-map (Expression-F.NamedComponent x) = refl
  layer-map (Expression-F.Indexing x) = refl
  layer-map (Expression-F.Unary x) = refl
  layer-map (Expression-F.Binary x) = refl
  layer-map (Expression-F.FunctionCall x) = call-map x.ty.path x.ty.ident x.ty.template_args x.arguments
  layer-map (Expression-F.TypeOrIdentifier t) = named-map t.path t.ident t.template_args

places_out : (e : Expression) → in_expression e ≡ layer in_expression (out-Expression e)
places_out e = fold_out-Expression (List Span) (layer (λ x. x)) e ∙ layer-map in_expression (out-Expression e)

pub in_parenthesized : (x : ParenthesizedExpressionOf Expression) → in_expression (Parenthesized x) ≡ in_node x.expression
in_parenthesized x = places_out (Parenthesized x) ∙ ap (layer in_expression) (outs-Parenthesized x)

pub in_unary : (x : UnaryExpressionOf Expression) → in_expression (Unary x) ≡ in_node x.operand
in_unary x = places_out (Unary x) ∙ ap (layer in_expression) (outs-Unary x)

pub in_call : (x : FunctionCallOf Expression) → in_expression (FunctionCall x) ≡ call_layer in_expression x
in_call x = places_out (FunctionCall x) ∙ ap (layer in_expression) (outs-FunctionCall x)

pub in_named : (t : TypeExpressionOf Expression) → in_expression (TypeOrIdentifier t) ≡ in_type t
in_named t = places_out (TypeOrIdentifier t) ∙ ap (layer in_expression) (outs-TypeOrIdentifier t)

-- ---- statements

pub in_void : in_statement Void ≡ None
in_void = ap in_layer outs-Void

pub in_returning : (x : ReturnStatement) → in_statement (Return x) ≡ Some (in_return x)
in_returning x = ap in_layer (outs-Return x)
