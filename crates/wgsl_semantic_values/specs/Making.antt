-- What the productions of names, types, calls and expressions make of their parts. Where parts do not fit, it is nothing.
use Rattle.std.specs.Prelude.{ℕ, ◌+◌, List, [], ◌∷◌, map, codes, Option, Some, None}
use Rattle.wgsl_path.specs.declared.span.Span.{Span}
use Rattle.wgsl_path.specs.declared.span.Spanned.{Spanned}
use Rattle.wgsl_path.specs.declared.ident.Ident.{Ident}
use Rattle.wgsl_path.specs.declared.path.ModulePath.{ModulePath}
use Rattle.wgsl_path.specs.declared.path.PathOrigin.TheVariants.{Relative, Package}
use Rattle.wgsl_path.specs.Paths.{ident_of}
use Rattle.wgsl_path.specs.Joining.{root_path, with_names}
use Rattle.wgsl_words.specs.declared.operators.UnaryOperator.{UnaryOperator}
use Rattle.wgsl_words.specs.declared.operators.BinaryOperator.{BinaryOperator}
use Rattle.wgsl_expressions.specs.declared.expression.Expression.{Expression}
use Rattle.wgsl_expressions.specs.declared.expression.Expression.TheVariants as exp
use Rattle.wgsl_expressions.specs.declared.expression.TemplateArgOf.{TemplateArgOf}
use Rattle.wgsl_semantic_values.specs.declared.part.Part.{Part}
use Rattle.wgsl_semantic_values.specs.declared.label.NameLabel.{NameLabel}
use Rattle.wgsl_semantic_values.specs.declared.label.NameLabel.TheVariants as name
use Rattle.wgsl_semantic_values.specs.declared.label.ExpressionLabel.{ExpressionLabel}
use Rattle.wgsl_semantic_values.specs.declared.label.ExpressionLabel.TheVariants as label
use Rattle.wgsl_semantic_values.specs.Reading.{expressions_of}
use Rattle.wgsl_semantic_values.specs.declared.part.Part.TheVariants as part

-- ---- names, types and calls

-- a name behind a path
abbrev pub behind : ModulePath → Ident → Part
behind path x = part.Path (record { path = Some path; ident = x })

abbrev pub name_alone : List Part → Part
name_alone (part.Ident x ∷ []) = part.Path (record { path = None; ident = x })
name_alone _ = part.Absent

abbrev pub name_above : List Part → Part
name_above (part.Ups levels ∷ part.Ident x ∷ []) = behind (record { origin = Relative levels; components = [] }) x
name_above _ = part.Absent

abbrev pub name_in_package : List Part → Part
name_in_package (part.Ident x ∷ []) = behind root_path x
name_in_package _ = part.Absent

-- the path of what stands within the module of a name: the name goes on its own path, and without one it is a package's
abbrev pub path_within : Option ModulePath → List ℕ → ModulePath
path_within None name = record { origin = Package name; components = [] }
path_within (Some path) name = with_names path (name ∷ [])

abbrev pub name_within : List Part → Part
name_within (part.Path outer ∷ part.Ident x ∷ []) = behind (path_within outer.path outer.ident.name) x
name_within _ = part.Absent

abbrev pub one_up : List Part → Part
one_up [] = part.Ups 1
one_up _ = part.Absent

abbrev pub further_up : List Part → Part
further_up (part.Ups levels ∷ []) = part.Ups (levels + 1)
further_up _ = part.Absent

abbrev pub simple : List Part → Part
simple (part.Path x ∷ []) = part.Type (record { path = x.path; ident = x.ident; template_args = None })
simple _ = part.Absent

-- expressions as template arguments
abbrev pub template_of : List (Spanned Expression) → List (TemplateArgOf Expression)
template_of xs = map (λ x. record { expression = x }) xs

abbrev pub templated : List Part → Part
templated (part.Path x ∷ part.Expressions xs ∷ []) = part.Type (record { path = x.path; ident = x.ident; template_args = Some (template_of xs) })
templated _ = part.Absent

abbrev pub call : List Part → Part
call (part.Type ty ∷ arguments ∷ []) = part.Call (record { ty = ty; arguments = expressions_of arguments })
call _ = part.Absent

abbrev pub make_name : NameLabel → List Part → Part
make_name name.NameAlone parts = name_alone parts
make_name name.NameAbove parts = name_above parts
make_name name.NameInPackage parts = name_in_package parts
make_name name.NameWithin parts = name_within parts
make_name name.OneUp parts = one_up parts
make_name name.FurtherUp parts = further_up parts
make_name name.Simple parts = simple parts
make_name name.Templated parts = templated parts
make_name name.Call parts = call parts

-- ---- expressions, at the extent of their phrase

abbrev pub expression_at : Span → Expression → Part
expression_at s x = part.Expression (record { node = x; span = s })

abbrev pub a_literal : Span → List Part → Part
a_literal s (part.Literal literal ∷ []) = expression_at s (exp.Literal literal)
a_literal s _ = part.Absent

abbrev pub named : Span → List Part → Part
named s (part.Type ty ∷ []) = expression_at s (exp.TypeOrIdentifier ty)
named s _ = part.Absent

abbrev pub called : Span → List Part → Part
called s (part.Call call ∷ []) = expression_at s (exp.FunctionCall call)
called s _ = part.Absent

abbrev pub parenthesized : Span → List Part → Part
parenthesized s (part.Expression x ∷ []) = expression_at s (exp.Parenthesized (record { expression = x }))
parenthesized s _ = part.Absent

abbrev pub component : Span → List Part → Part
component s (part.Expression base ∷ part.Ident name ∷ []) = expression_at s (exp.NamedComponent (record { base = base; component = name }))
component s _ = part.Absent

abbrev pub indexed : Span → List Part → Part
indexed s (part.Expression base ∷ part.Expression index ∷ []) = expression_at s (exp.Indexing (record { base = base; index = index }))
indexed s _ = part.Absent

abbrev pub unary : UnaryOperator → Span → List Part → Part
unary o s (part.Expression operand ∷ []) = expression_at s (exp.Unary (record { operator = o; operand = operand }))
unary o s _ = part.Absent

abbrev pub binary : BinaryOperator → Span → List Part → Part
binary o s (part.Expression left ∷ part.Expression right ∷ []) = expression_at s (exp.Binary (record { operator = o; left = left; right = right }))
binary o s _ = part.Absent

abbrev pub place_name : Span → List Part → Part
place_name s (part.Path x ∷ []) = expression_at s (exp.TypeOrIdentifier (record { path = x.path; ident = x.ident; template_args = None }))
place_name s _ = part.Absent

-- `_`, as an identifier
abbrev pub underscore : Span → List Part → Part
underscore s [] = expression_at s (exp.TypeOrIdentifier (record { path = None; ident = ident_of (codes "_"); template_args = None }))
underscore s _ = part.Absent

abbrev pub make_expression : ExpressionLabel → Span → List Part → Part
make_expression label.ALiteral s parts = a_literal s parts
make_expression label.Named s parts = named s parts
make_expression label.Called s parts = called s parts
make_expression label.Parenthesized s parts = parenthesized s parts
make_expression label.Component s parts = component s parts
make_expression label.Indexed s parts = indexed s parts
make_expression (label.Unary o) s parts = unary o s parts
make_expression (label.Binary o) s parts = binary o s parts
make_expression label.PlaceName s parts = place_name s parts
make_expression label.Underscore s parts = underscore s parts
