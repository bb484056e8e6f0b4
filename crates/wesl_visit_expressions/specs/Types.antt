-- The outermost types inside an expression or a type, in the order in which they are printed; and all of it but these.
use Rattle.std.specs.Prelude.{Bool, true, false, List, [], ◌∷◌, ◌++◌, map, Option, Some, None}
use Rattle.std.specs.List.{flat_map}
use Rattle.std.specs.Option.{option_map}
use Rattle.wgsl_path.specs.declared.span.Spanned.{Spanned}
use Rattle.wgsl_expressions.specs.declared.expression.Expression.{Expression, fold-Expression, map-Expression, roll-Expression}
use Rattle.wgsl_expressions.specs.declared.expression.Expression.TheOpen.{Expression-F}
use Rattle.wgsl_expressions.specs.declared.expression.Expression.TheVariants as code
use Rattle.wgsl_expressions.specs.declared.expression.ParenthesizedExpressionOf.{ParenthesizedExpressionOf}
use Rattle.wgsl_expressions.specs.declared.expression.NamedComponentExpressionOf.{NamedComponentExpressionOf}
use Rattle.wgsl_expressions.specs.declared.expression.IndexingExpressionOf.{IndexingExpressionOf}
use Rattle.wgsl_expressions.specs.declared.expression.UnaryExpressionOf.{UnaryExpressionOf}
use Rattle.wgsl_expressions.specs.declared.expression.BinaryExpressionOf.{BinaryExpressionOf}
use Rattle.wgsl_expressions.specs.declared.expression.FunctionCallOf.{FunctionCallOf}
use Rattle.wgsl_expressions.specs.declared.expression.TypeExpressionOf.{TypeExpressionOf}
use Rattle.wgsl_expressions.specs.declared.expression.TemplateArgOf.{TemplateArgOf}

-- ---- the types

-- in a layer, of whose parts `whole` gives the expressions and `found` the types in them
module _ {A : Type 0} (whole : A → Expression) (found : A → List (TypeExpressionOf Expression)) where
  abbrev pub whole_argument : TemplateArgOf A → TemplateArgOf Expression
  whole_argument a = record { expression = record { node = whole a.expression.node; span = a.expression.span } }

  abbrev pub whole_type : TypeExpressionOf A → TypeExpressionOf Expression
  whole_type t = record { path = t.path; ident = t.ident; template_args = option_map (map whole_argument) t.template_args }

  abbrev pub in_part : Spanned A → List (TypeExpressionOf Expression)
  in_part n = found n.node

  abbrev pub in_layer : Expression-F A → List (TypeExpressionOf Expression)
  in_layer (Expression-F.Literal l) = []
  in_layer (Expression-F.Parenthesized x) = in_part x.expression
  in_layer (Expression-F.NamedComponent x) = in_part x.base
  in_layer (Expression-F.Indexing x) = in_part x.base ++ in_part x.index
  in_layer (Expression-F.Unary x) = in_part x.operand
  in_layer (Expression-F.Binary x) = in_part x.left ++ in_part x.right
  in_layer (Expression-F.FunctionCall x) = whole_type x.ty ∷ flat_map in_part x.arguments
  in_layer (Expression-F.TypeOrIdentifier t) = whole_type t ∷ []

-- an expression, and the types in it: a type that is found is given with the expressions in its template arguments
abbrev pub Read : Type 0
Read = Expression × List (TypeExpressionOf Expression)

abbrev pub read_layer : Expression-F Read → Read
read_layer x = (roll-Expression (map-Expression Read Expression (λ r. r.0) x), in_layer (λ r. r.0) (λ r. r.1) x)

abbrev pub read : Expression → Read
read = fold-Expression Read read_layer

-- in an expression
abbrev pub types_in : Expression → List (TypeExpressionOf Expression)
types_in e = (read e).1

abbrev pub in_node : Spanned Expression → List (TypeExpressionOf Expression)
in_node n = types_in n.node

abbrev pub in_argument : TemplateArgOf Expression → List (TypeExpressionOf Expression)
in_argument a = types_in a.expression.node

abbrev pub in_brackets : Option (List (TemplateArgOf Expression)) → List (TypeExpressionOf Expression)
in_brackets None = []
in_brackets (Some arguments) = flat_map in_argument arguments

-- inside a type
abbrev pub types_inside : TypeExpressionOf Expression → List (TypeExpressionOf Expression)
types_inside t = in_brackets t.template_args

abbrev pub in_call : FunctionCallOf Expression → List (TypeExpressionOf Expression)
in_call x = x.ty ∷ flat_map in_node x.arguments

-- where there may be an expression
abbrev pub in_option : Option (Spanned Expression) → List (TypeExpressionOf Expression)
in_option None = []
in_option (Some n) = types_in n.node

-- ---- all but the types: in the place of each stands one without a name

abbrev pub blank : TypeExpressionOf Expression
blank = record { path = None; ident = record { name = []; symbol = None }; template_args = None }

module _ {A : Type 0} (around : A → Expression) where
  abbrev pub around_part : Spanned A → Spanned Expression
  around_part n = record { node = around n.node; span = n.span }

  abbrev pub around_parenthesized : ParenthesizedExpressionOf A → ParenthesizedExpressionOf Expression
  around_parenthesized x = record { expression = around_part x.expression }

  abbrev pub around_component : NamedComponentExpressionOf A → NamedComponentExpressionOf Expression
  around_component x = record { base = around_part x.base; component = x.component }

  abbrev pub around_indexing : IndexingExpressionOf A → IndexingExpressionOf Expression
  around_indexing x = record { base = around_part x.base; index = around_part x.index }

  abbrev pub around_unary : UnaryExpressionOf A → UnaryExpressionOf Expression
  around_unary x = record { operator = x.operator; operand = around_part x.operand }

  abbrev pub around_binary : BinaryExpressionOf A → BinaryExpressionOf Expression
  around_binary x = record { operator = x.operator; left = around_part x.left; right = around_part x.right }

  abbrev pub around_call : FunctionCallOf A → FunctionCallOf Expression
  around_call x = record { ty = blank; arguments = map around_part x.arguments }

  abbrev pub around_layer : Expression-F A → Expression
  around_layer (Expression-F.Literal l) = code.Literal l
  around_layer (Expression-F.Parenthesized x) = code.Parenthesized (around_parenthesized x)
  around_layer (Expression-F.NamedComponent x) = code.NamedComponent (around_component x)
  around_layer (Expression-F.Indexing x) = code.Indexing (around_indexing x)
  around_layer (Expression-F.Unary x) = code.Unary (around_unary x)
  around_layer (Expression-F.Binary x) = code.Binary (around_binary x)
  around_layer (Expression-F.FunctionCall x) = code.FunctionCall (around_call x)
  around_layer (Expression-F.TypeOrIdentifier t) = code.TypeOrIdentifier blank

-- in an expression
abbrev pub around_types : Expression → Expression
around_types = fold-Expression Expression (around_layer (λ x. x))

abbrev pub around_node : Spanned Expression → Spanned Expression
around_node n = record { node = around_types n.node; span = n.span }

abbrev pub around_argument : TemplateArgOf Expression → TemplateArgOf Expression
around_argument a = record { expression = around_node a.expression }

-- inside a type
abbrev pub around_inside : TypeExpressionOf Expression → TypeExpressionOf Expression
around_inside t = record { path = t.path; ident = t.ident; template_args = option_map (map around_argument) t.template_args }

-- what a visit meets inside a type before it: all, or nothing where it is not deep
abbrev pub inside_by : Bool → TypeExpressionOf Expression → List (TypeExpressionOf Expression)
inside_by true t = types_inside t
inside_by false t = []

-- and what stays until it meets the type itself
abbrev pub around_by : Bool → TypeExpressionOf Expression → TypeExpressionOf Expression
around_by true t = around_inside t
around_by false t = t
