-- The places of the nodes of a unit: of its declarations, attributes, statements and expressions, in the order of its text, each before those
-- inside it.
use Rattle.std.specs.Prelude.{List, [], ◌∷◌, ◌++◌, flat_map, Option, Some, None}
use Rattle.wgsl_path.specs.declared.span.Span.{Span}
use Rattle.wgsl_path.specs.declared.span.Spanned.{Spanned}
use Rattle.core_syntax.specs.declared.expression.Expression.{Expression, fold-Expression}
use Rattle.core_syntax.specs.declared.expression.Expression.TheOpen.{Expression-F}
use Rattle.core_syntax.specs.declared.expression.BinaryExpressionOf.{BinaryExpressionOf}
use Rattle.core_syntax.specs.declared.expression.FunctionCallOf.{FunctionCallOf}
use Rattle.core_syntax.specs.declared.expression.TypeExpressionOf.{TypeExpressionOf}
use Rattle.core_syntax.specs.declared.expression.TemplateArgOf.{TemplateArgOf}
use Rattle.core_syntax.specs.declared.declaration.Attribute.{Attribute}
use Rattle.core_syntax.specs.declared.declaration.Attribute.TheVariants.{Fragment, Location}
use Rattle.core_syntax.specs.declared.declaration.FormalParameter.{FormalParameter}
use Rattle.core_syntax.specs.declared.declaration.Declaration.{Declaration}
use Rattle.core_syntax.specs.declared.declaration.Function.{Function}
use Rattle.core_syntax.specs.declared.declaration.GlobalDeclaration.{GlobalDeclaration}
use Rattle.core_syntax.specs.declared.declaration.GlobalDeclaration.TheVariants as declared
use Rattle.core_syntax.specs.declared.statement.Statement.{Statement}
use Rattle.core_syntax.specs.declared.statement.Statement.TheVariants.{Return}
use Rattle.core_syntax.specs.declared.statement.ReturnStatement.{ReturnStatement}
use Rattle.core_syntax.specs.declared.statement.CompoundStatementOf.{CompoundStatementOf}
use Rattle.core_syntax.specs.declared.import.ImportStatement.{ImportStatement}
use Rattle.core_syntax.specs.declared.unit.TranslationUnit.{TranslationUnit}

-- a node's place, and those inside it
abbrev pub at : {A : Type 0} → (A → List Span) → Spanned A → List Span
at f n = n.span ∷ f n.node

-- of what may be absent
abbrev pub in_optional : {A : Type 0} → (A → List Span) → Option A → List Span
in_optional f None = []
in_optional f (Some x) = f x

-- ---- expressions and types

abbrev pub in_argument : {A : Type 0} → (A → List Span) → TemplateArgOf A → List Span
in_argument f a = at f a.expression

abbrev pub type_layer : {A : Type 0} → (A → List Span) → TypeExpressionOf A → List Span
type_layer f t = in_optional (flat_map (in_argument f)) t.template_args

abbrev pub binary_layer : {A : Type 0} → (A → List Span) → BinaryExpressionOf A → List Span
binary_layer f x = at f x.left ++ at f x.right

abbrev pub call_layer : {A : Type 0} → (A → List Span) → FunctionCallOf A → List Span
call_layer f x = type_layer f x.ty ++ flat_map (at f) x.arguments

-- inside a node, from what is inside its parts
abbrev pub layer : {A : Type 0} → (A → List Span) → Expression-F A → List Span
layer f (Expression-F.Literal l) = []
layer f (Expression-F.Parenthesized x) = at f x.expression
layer f (Expression-F.Unary x) = at f x.operand
layer f (Expression-F.Binary x) = binary_layer f x
layer f (Expression-F.FunctionCall x) = call_layer f x
layer f (Expression-F.TypeOrIdentifier t) = type_layer f t

abbrev pub in_expression : Expression → List Span
in_expression = fold-Expression (List Span) (layer (λ x. x))

abbrev pub in_node : Spanned Expression → List Span
in_node n = at in_expression n

abbrev pub in_type : TypeExpressionOf Expression → List Span
in_type t = type_layer in_expression t

-- ---- attributes, statements, declarations

abbrev pub in_attribute : Attribute → List Span
in_attribute Fragment = []
in_attribute (Location x) = in_node x

abbrev pub in_attributes : List (Spanned Attribute) → List Span
in_attributes attributes = flat_map (at in_attribute) attributes

abbrev pub in_return : ReturnStatement → List Span
in_return x = in_attributes x.attributes ++ in_optional in_node x.expression

abbrev pub in_statement : Statement → List Span
in_statement (Return x) = in_return x

abbrev pub in_statements : List (Spanned Statement) → List Span
in_statements nodes = flat_map (at in_statement) nodes

abbrev pub in_block : CompoundStatementOf Statement → List Span
in_block b = in_attributes b.attributes ++ in_statements b.statements

abbrev pub in_parameter : FormalParameter → List Span
in_parameter p = in_attributes p.attributes ++ in_type p.ty

abbrev pub in_variable : Declaration → List Span
in_variable x = in_attributes x.attributes ++ in_optional in_type x.ty ++ in_optional in_node x.initializer

abbrev pub in_function : Function → List Span
in_function x =
    in_attributes x.attributes ++ flat_map in_parameter x.parameters ++ in_attributes x.return_attributes ++ in_optional in_type x.return_type
    ++ in_block x.body

abbrev pub in_declaration : GlobalDeclaration → List Span
in_declaration (declared.Declaration x) = in_variable x
in_declaration (declared.Function x) = in_function x

abbrev pub in_declarations : List (Spanned GlobalDeclaration) → List Span
in_declarations nodes = flat_map (at in_declaration) nodes

abbrev pub in_import : ImportStatement → List Span
in_import i = in_attributes i.attributes

abbrev pub places : TranslationUnit → List Span
places u = flat_map in_import u.imports ++ in_declarations u.global_declarations
