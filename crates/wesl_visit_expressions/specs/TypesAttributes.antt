-- The outermost types inside an attribute, in the order in which they are printed; and all of it but these.
use Rattle.std.specs.Prelude.{List, [], ◌++◌, map, Option, Some, None}
use Rattle.std.specs.List.{flat_map}
use Rattle.std.specs.Option.{option_map}
use Rattle.wgsl_path.specs.declared.span.Spanned.{Spanned}
use Rattle.wgsl_expressions.specs.declared.expression.Expression.{Expression}
use Rattle.wgsl_expressions.specs.declared.expression.TypeExpressionOf.{TypeExpressionOf}
use Rattle.wgsl_expressions.specs.declared.attributes.attribute.Attribute.{Attribute}
use Rattle.wgsl_expressions.specs.declared.attributes.attribute.Attribute.TheVariants as code
use Rattle.wgsl_expressions.specs.declared.attributes.attribute.WorkgroupSizeAttribute.{WorkgroupSizeAttribute}
use Rattle.wgsl_expressions.specs.declared.attributes.attribute.CustomAttribute.{CustomAttribute}
use Rattle.wesl_visit_expressions.specs.Types.{in_node, in_option, around_node}

-- ---- the types

abbrev pub in_sizes : WorkgroupSizeAttribute → List (TypeExpressionOf Expression)
in_sizes x = in_node x.x ++ (in_option x.y ++ in_option x.z)

abbrev pub in_arguments : Option (List (Spanned Expression)) → List (TypeExpressionOf Expression)
in_arguments None = []
in_arguments (Some arguments) = flat_map in_node arguments

abbrev pub in_custom : CustomAttribute → List (TypeExpressionOf Expression)
in_custom x = in_arguments x.arguments

-- in an attribute
abbrev pub types_in_attribute : Attribute → List (TypeExpressionOf Expression)
types_in_attribute (code.Align x) = in_node x
types_in_attribute (code.Binding x) = in_node x
types_in_attribute (code.BlendSrc x) = in_node x
types_in_attribute (code.Builtin x) = []
types_in_attribute code.Const = []
types_in_attribute (code.Diagnostic x) = []
types_in_attribute (code.Group x) = in_node x
types_in_attribute (code.Id x) = in_node x
types_in_attribute (code.Interpolate x) = []
types_in_attribute code.Invariant = []
types_in_attribute (code.Location x) = in_node x
types_in_attribute code.MustUse = []
types_in_attribute (code.Size x) = in_node x
types_in_attribute (code.WorkgroupSize x) = in_sizes x
types_in_attribute code.Vertex = []
types_in_attribute code.Fragment = []
types_in_attribute code.Compute = []
types_in_attribute code.Publish = []
types_in_attribute (code.If x) = in_node x
types_in_attribute (code.Elif x) = in_node x
types_in_attribute code.Else = []
types_in_attribute (code.Custom x) = in_custom x

-- ---- all but the types

abbrev pub around_sizes : WorkgroupSizeAttribute → WorkgroupSizeAttribute
around_sizes x = record { x = around_node x.x; y = option_map around_node x.y; z = option_map around_node x.z }

abbrev pub around_custom : CustomAttribute → CustomAttribute
around_custom x = record { name = x.name; arguments = option_map (map around_node) x.arguments }

-- in an attribute
abbrev pub around_type_attribute : Attribute → Attribute
around_type_attribute (code.Align x) = code.Align (around_node x)
around_type_attribute (code.Binding x) = code.Binding (around_node x)
around_type_attribute (code.BlendSrc x) = code.BlendSrc (around_node x)
around_type_attribute (code.Builtin x) = code.Builtin x
around_type_attribute code.Const = code.Const
around_type_attribute (code.Diagnostic x) = code.Diagnostic x
around_type_attribute (code.Group x) = code.Group (around_node x)
around_type_attribute (code.Id x) = code.Id (around_node x)
around_type_attribute (code.Interpolate x) = code.Interpolate x
around_type_attribute code.Invariant = code.Invariant
around_type_attribute (code.Location x) = code.Location (around_node x)
around_type_attribute code.MustUse = code.MustUse
around_type_attribute (code.Size x) = code.Size (around_node x)
around_type_attribute (code.WorkgroupSize x) = code.WorkgroupSize (around_sizes x)
around_type_attribute code.Vertex = code.Vertex
around_type_attribute code.Fragment = code.Fragment
around_type_attribute code.Compute = code.Compute
around_type_attribute code.Publish = code.Publish
around_type_attribute (code.If x) = code.If (around_node x)
around_type_attribute (code.Elif x) = code.Elif (around_node x)
around_type_attribute code.Else = code.Else
around_type_attribute (code.Custom x) = code.Custom (around_custom x)

abbrev pub around_attribute_node : Spanned Attribute → Spanned Attribute
around_attribute_node n = record { node = around_type_attribute n.node; span = n.span }
