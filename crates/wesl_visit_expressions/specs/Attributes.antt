-- The outermost expressions with their places inside an attribute, in the order in which they are printed; and all of it but these.
use Rattle.std.specs.Prelude.{List, [], ◌∷◌, ◌++◌, map, Option, Some, None}
use Rattle.std.specs.List.{flat_map}
use Rattle.std.specs.Option.{option_map}
use Rattle.wgsl_path.specs.declared.span.Spanned.{Spanned}
use Rattle.wgsl_expressions.specs.declared.expression.Expression.{Expression}
use Rattle.wgsl_expressions.specs.declared.attributes.attribute.Attribute.{Attribute}
use Rattle.wgsl_expressions.specs.declared.attributes.attribute.Attribute.TheVariants as code
use Rattle.wgsl_expressions.specs.declared.attributes.attribute.WorkgroupSizeAttribute.{WorkgroupSizeAttribute}
use Rattle.wgsl_expressions.specs.declared.attributes.attribute.CustomAttribute.{CustomAttribute}
use Rattle.wesl_visit_expressions.specs.Expressions.{in_option, blank, around_node}

-- ---- the expressions

abbrev pub in_sizes : WorkgroupSizeAttribute → List (Spanned Expression)
in_sizes x = x.x ∷ in_option x.y ++ in_option x.z

abbrev pub in_arguments : Option (List (Spanned Expression)) → List (Spanned Expression)
in_arguments None = []
in_arguments (Some arguments) = arguments

abbrev pub in_custom : CustomAttribute → List (Spanned Expression)
in_custom x = in_arguments x.arguments

-- in an attribute
abbrev pub expressions_in_attribute : Attribute → List (Spanned Expression)
expressions_in_attribute (code.Align x) = x ∷ []
expressions_in_attribute (code.Binding x) = x ∷ []
expressions_in_attribute (code.BlendSrc x) = x ∷ []
expressions_in_attribute (code.Builtin x) = []
expressions_in_attribute code.Const = []
expressions_in_attribute (code.Diagnostic x) = []
expressions_in_attribute (code.Group x) = x ∷ []
expressions_in_attribute (code.Id x) = x ∷ []
expressions_in_attribute (code.Interpolate x) = []
expressions_in_attribute code.Invariant = []
expressions_in_attribute (code.Location x) = x ∷ []
expressions_in_attribute code.MustUse = []
expressions_in_attribute (code.Size x) = x ∷ []
expressions_in_attribute (code.WorkgroupSize x) = in_sizes x
expressions_in_attribute code.Vertex = []
expressions_in_attribute code.Fragment = []
expressions_in_attribute code.Compute = []
expressions_in_attribute code.Publish = []
expressions_in_attribute (code.If x) = x ∷ []
expressions_in_attribute (code.Elif x) = x ∷ []
expressions_in_attribute code.Else = []
expressions_in_attribute (code.Custom x) = in_custom x

-- ---- all but the expressions

abbrev pub around_sizes : WorkgroupSizeAttribute → WorkgroupSizeAttribute
around_sizes x = record { x = blank; y = option_map around_node x.y; z = option_map around_node x.z }

abbrev pub around_custom : CustomAttribute → CustomAttribute
around_custom x = record { name = x.name; arguments = option_map (map around_node) x.arguments }

-- in an attribute
abbrev pub around_attribute : Attribute → Attribute
around_attribute (code.Align x) = code.Align blank
around_attribute (code.Binding x) = code.Binding blank
around_attribute (code.BlendSrc x) = code.BlendSrc blank
around_attribute (code.Builtin x) = code.Builtin x
around_attribute code.Const = code.Const
around_attribute (code.Diagnostic x) = code.Diagnostic x
around_attribute (code.Group x) = code.Group blank
around_attribute (code.Id x) = code.Id blank
around_attribute (code.Interpolate x) = code.Interpolate x
around_attribute code.Invariant = code.Invariant
around_attribute (code.Location x) = code.Location blank
around_attribute code.MustUse = code.MustUse
around_attribute (code.Size x) = code.Size blank
around_attribute (code.WorkgroupSize x) = code.WorkgroupSize (around_sizes x)
around_attribute code.Vertex = code.Vertex
around_attribute code.Fragment = code.Fragment
around_attribute code.Compute = code.Compute
around_attribute code.Publish = code.Publish
around_attribute (code.If x) = code.If blank
around_attribute (code.Elif x) = code.Elif blank
around_attribute code.Else = code.Else
around_attribute (code.Custom x) = code.Custom (around_custom x)

abbrev pub around_attribute_node : Spanned Attribute → Spanned Attribute
around_attribute_node n = record { node = around_attribute n.node; span = n.span }
