-- The outermost expressions with their places inside an expression or a type, in the order in which they are printed; and all of it
-- but these.
use Rattle.std.specs.Prelude.{Bool, true, false, List, [], ◌∷◌, ◌++◌, map, Option, Some, None}
use Rattle.std.specs.List.{flat_map}
use Rattle.std.specs.Option.{option_map}
use Rattle.wgsl_path.specs.declared.span.Spanned.{Spanned}
use Rattle.wgsl_expressions.specs.declared.expression.LiteralExpression.TheVariants as literal
use Rattle.wgsl_expressions.specs.declared.expression.Expression.{Expression, out-Expression}
use Rattle.wgsl_expressions.specs.declared.expression.Expression.TheOpen.{Expression-F}
use Rattle.wgsl_expressions.specs.declared.expression.Expression.TheVariants as code
use Rattle.wgsl_expressions.specs.declared.expression.ParenthesizedExpressionOf.{ParenthesizedExpressionOf}
use Rattle.wgsl_expressions.specs.declared.expression.NamedComponentExpressionOf.{NamedComponentExpressionOf}
use Rattle.wgsl_expressions.specs.declared.expression.IndexingExpressionOf.{IndexingExpressionOf}
use Rattle.wgsl_expressions.specs.declared.expression.UnaryExpressionOf.{UnaryExpressionOf}
use Rattle.wgsl_expressions.specs.declared.expression.BinaryExpressionOf.{BinaryExpressionOf}
use Rattle.wgsl_expressions.specs.declared.expression.FunctionCallOf.{FunctionCallOf}
use Rattle.wgsl_expressions.specs.declared.expression.TypeExpressionOf.{TypeExpressionOf}
use Rattle.wgsl_expressions.specs.declared.expression.TemplateArgOf.{TemplateArgOf}

-- ---- the expressions

module _ {A : Type 0} where
  abbrev pub in_argument : TemplateArgOf A → List (Spanned A)
  in_argument a = a.expression ∷ []

  abbrev pub in_brackets : Option (List (TemplateArgOf A)) → List (Spanned A)
  in_brackets None = []
  in_brackets (Some arguments) = flat_map in_argument arguments

  abbrev pub in_type : TypeExpressionOf A → List (Spanned A)
  in_type t = in_brackets t.template_args

  abbrev pub in_call : FunctionCallOf A → List (Spanned A)
  in_call x = in_type x.ty ++ x.arguments

  -- where there may be an expression
  abbrev pub in_option : Option (Spanned A) → List (Spanned A)
  in_option None = []
  in_option (Some n) = n ∷ []

  abbrev pub in_layer : Expression-F A → List (Spanned A)
  in_layer (Expression-F.Literal l) = []
  in_layer (Expression-F.Parenthesized x) = x.expression ∷ []
  in_layer (Expression-F.NamedComponent x) = x.base ∷ []
  in_layer (Expression-F.Indexing x) = x.base ∷ x.index ∷ []
  in_layer (Expression-F.Unary x) = x.operand ∷ []
  in_layer (Expression-F.Binary x) = x.left ∷ x.right ∷ []
  in_layer (Expression-F.FunctionCall x) = in_call x
  in_layer (Expression-F.TypeOrIdentifier t) = in_type t

-- in an expression
abbrev pub expressions_in : Expression → List (Spanned Expression)
expressions_in e = in_layer (out-Expression e)

-- inside an expression with its place
abbrev pub expressions_inside : Spanned Expression → List (Spanned Expression)
expressions_inside n = expressions_in n.node

-- ---- all but the expressions: in the place of each stands `false` at no place

abbrev pub blank : Spanned Expression
blank = record { node = code.Literal (literal.Bool false); span = record { start = 0; end = 0 } }

module _ {A : Type 0} where
  abbrev pub around_node : Spanned A → Spanned Expression
  around_node n = blank

  abbrev pub around_parenthesized : ParenthesizedExpressionOf A → ParenthesizedExpressionOf Expression
  around_parenthesized x = record { expression = blank }

  abbrev pub around_component : NamedComponentExpressionOf A → NamedComponentExpressionOf Expression
  around_component x = record { base = blank; component = x.component }

  abbrev pub around_indexing : IndexingExpressionOf A → IndexingExpressionOf Expression
  around_indexing x = record { base = blank; index = blank }

  abbrev pub around_unary : UnaryExpressionOf A → UnaryExpressionOf Expression
  around_unary x = record { operator = x.operator; operand = blank }

  abbrev pub around_binary : BinaryExpressionOf A → BinaryExpressionOf Expression
  around_binary x = record { operator = x.operator; left = blank; right = blank }

  abbrev pub around_argument : TemplateArgOf A → TemplateArgOf Expression
  around_argument a = record { expression = blank }

  abbrev pub around_type : TypeExpressionOf A → TypeExpressionOf Expression
  around_type t = record { path = t.path; ident = t.ident; template_args = option_map (map around_argument) t.template_args }

  abbrev pub around_call : FunctionCallOf A → FunctionCallOf Expression
  around_call x = record { ty = around_type x.ty; arguments = map around_node x.arguments }

  abbrev pub around_layer : Expression-F A → Expression
  around_layer (Expression-F.Literal l) = code.Literal l
  around_layer (Expression-F.Parenthesized x) = code.Parenthesized (around_parenthesized x)
  around_layer (Expression-F.NamedComponent x) = code.NamedComponent (around_component x)
  around_layer (Expression-F.Indexing x) = code.Indexing (around_indexing x)
  around_layer (Expression-F.Unary x) = code.Unary (around_unary x)
  around_layer (Expression-F.Binary x) = code.Binary (around_binary x)
  around_layer (Expression-F.FunctionCall x) = code.FunctionCall (around_call x)
  around_layer (Expression-F.TypeOrIdentifier t) = code.TypeOrIdentifier (around_type t)

-- in an expression
abbrev pub around_expressions : Expression → Expression
around_expressions e = around_layer (out-Expression e)

-- in an expression with its place
abbrev pub around_inside : Spanned Expression → Spanned Expression
around_inside n = record { node = around_expressions n.node; span = n.span }

-- what a visit meets inside an expression before it: all, or nothing where it is not deep
abbrev pub inside_by : Bool → Spanned Expression → List (Spanned Expression)
inside_by true n = expressions_inside n
inside_by false n = []

-- and what stays until it meets the expression itself
abbrev pub around_by : Bool → Spanned Expression → Spanned Expression
around_by true n = around_inside n
around_by false n = n
