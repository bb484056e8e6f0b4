-- When two expressions are equal, from when their parts are.
use Rattle.std.specs.Prelude.{Bool, true, false, ◌&&◌, List, Option, Some, None}
use Rattle.std.specs.Option.{option_eq}
use Rattle.std.specs.Str.{bytes_eq}
use Rattle.std.specs.Cmp.Lexicographic.{pointwise}
use Rattle.wgsl_path.specs.contracts.path.ModulePathPartialEq.TheImpl as path
use Rattle.wgsl_words.specs.contracts.operators.UnaryOperatorPartialEq.TheImpl as unary
use Rattle.wgsl_words.specs.contracts.operators.BinaryOperatorPartialEq.TheImpl as binary
use Rattle.wgsl_expressions.specs.contracts.expression.LiteralExpressionPartialEq.TheImpl as lit
use Rattle.wgsl_expressions.specs.declared.expression.Expression.TheOpen.{Expression-F}
use Rattle.wgsl_expressions.specs.declared.expression.TypeExpressionOf.{TypeExpressionOf}
use Rattle.wgsl_expressions.specs.declared.expression.TemplateArgOf.{TemplateArgOf}

-- template arguments are equal where their expressions are
abbrev pub same_argument : {A B : Type 0} → (A → B → Bool) → TemplateArgOf A → TemplateArgOf B → Bool
same_argument E x y = E x.expression.node y.expression.node

-- so are lists of them, or where both have none
abbrev pub same_arguments : {A B : Type 0} → (A → B → Bool) → Option (List (TemplateArgOf A)) → Option (List (TemplateArgOf B)) → Bool
same_arguments E None None = true
same_arguments E (Some xs) (Some ys) = pointwise (same_argument E) xs ys
same_arguments E _ _ = false

-- types are equal where their paths, names and template arguments are
abbrev pub same_type : {A B : Type 0} → (A → B → Bool) → TypeExpressionOf A → TypeExpressionOf B → Bool
same_type E x y = option_eq path.eq-value.it x.path y.path && (bytes_eq x.ident.name y.ident.name && same_arguments E x.template_args y.template_args)

-- expressions are equal where their variants are and all that these hold, but for places
abbrev pub same_layer : {A B : Type 0} → (A → B → Bool) → Expression-F A → Expression-F B → Bool
same_layer E (Expression-F.Literal x) (Expression-F.Literal y) = lit.eq-value.it x y
same_layer E (Expression-F.Parenthesized x) (Expression-F.Parenthesized y) = E x.expression.node y.expression.node
same_layer E (Expression-F.NamedComponent x) (Expression-F.NamedComponent y) = E x.base.node y.base.node && bytes_eq x.component.name y.component.name
same_layer E (Expression-F.Indexing x) (Expression-F.Indexing y) = E x.base.node y.base.node && E x.index.node y.index.node
same_layer E (Expression-F.Unary x) (Expression-F.Unary y) = unary.eq-value.it x.operator y.operator && E x.operand.node y.operand.node
same_layer E (Expression-F.Binary x) (Expression-F.Binary y) = binary.eq-value.it x.operator y.operator && (E x.left.node y.left.node && E x.right.node y.right.node)
same_layer E (Expression-F.FunctionCall x) (Expression-F.FunctionCall y) = same_type E x.ty y.ty && pointwise (λ a b. E a.node b.node) x.arguments y.arguments
same_layer E (Expression-F.TypeOrIdentifier x) (Expression-F.TypeOrIdentifier y) = same_type E x y
same_layer E _ _ = false
