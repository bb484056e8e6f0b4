-- The attribute without places that a code tree stands for.
use Rattle.std.specs.Prelude.{List, map}
use Rattle.std.specs.Option.{option_map}
use Rattle.wgsl_expressions.specs.Spanned.{Spanned}
use Rattle.wgsl_expressions.specs.View.{node_tree}
use Rattle.wgsl_expressions.specs.declared.attributes.attribute.Attribute.{Attribute}
use Rattle.wgsl_expressions.specs.declared.attributes.attribute.Attribute.TheVariants as code
use Rattle.wgsl_expressions.specs.declared.attributes.attribute.DiagnosticAttribute.{DiagnosticAttribute}
use Rattle.wgsl_expressions.specs.declared.attributes.attribute.InterpolateAttribute.{InterpolateAttribute}
use Rattle.wgsl_expressions.specs.declared.attributes.attribute.WorkgroupSizeAttribute.{WorkgroupSizeAttribute}
use Rattle.wgsl_expressions.specs.declared.attributes.attribute.CustomAttribute.{CustomAttribute}
use Rattle.wgsl_expressions.specs.AttributesTree.{Attr, align, binding, blend_src, builtin, constant, diagnostic, group, id_number, interpolate, invariant, location, must_use, byte_size, workgroup_size, vertex, fragment, compute, publish, if_true, else_if, otherwise, custom}

abbrev pub diagnostic_tree : DiagnosticAttribute → Attr
diagnostic_tree x = diagnostic x.severity x.rule

abbrev pub interpolate_tree : InterpolateAttribute → Attr
interpolate_tree x = interpolate x.ty x.sampling

abbrev pub workgroup_tree : WorkgroupSizeAttribute → Attr
workgroup_tree x = workgroup_size (node_tree x.x) (option_map node_tree x.y) (option_map node_tree x.z)

abbrev pub custom_tree : CustomAttribute → Attr
custom_tree x = custom x.name (option_map (map node_tree) x.arguments)

abbrev pub attribute_tree : Attribute → Attr
attribute_tree (code.Align x) = align (node_tree x)
attribute_tree (code.Binding x) = binding (node_tree x)
attribute_tree (code.BlendSrc x) = blend_src (node_tree x)
attribute_tree (code.Builtin x) = builtin x
attribute_tree code.Const = constant
attribute_tree (code.Diagnostic x) = diagnostic_tree x
attribute_tree (code.Group x) = group (node_tree x)
attribute_tree (code.Id x) = id_number (node_tree x)
attribute_tree (code.Interpolate x) = interpolate_tree x
attribute_tree code.Invariant = invariant
attribute_tree (code.Location x) = location (node_tree x)
attribute_tree code.MustUse = must_use
attribute_tree (code.Size x) = byte_size (node_tree x)
attribute_tree (code.WorkgroupSize x) = workgroup_tree x
attribute_tree code.Vertex = vertex
attribute_tree code.Fragment = fragment
attribute_tree code.Compute = compute
attribute_tree code.Publish = publish
attribute_tree (code.If x) = if_true (node_tree x)
attribute_tree (code.Elif x) = else_if (node_tree x)
attribute_tree code.Else = otherwise
attribute_tree (code.Custom x) = custom_tree x

abbrev pub attributes_tree : List (Spanned Attribute) → List Attr
attributes_tree attributes = map (λ n. attribute_tree n.node) attributes
