-- The implicit conversion of a value to a type (WGSL, "Conversion Rank").
use Rattle.std.specs.Prelude.{Bool, true, false, List, Option, Some, None, Result, Ok, Err, if◌then◌else◌}
use Rattle.wgsl_shader_type.specs.declared.error.Error.{Error}
use Rattle.wgsl_shader_type.specs.declared.error.Error.TheVariants.{Conversion}
use Rattle.wgsl_shader_type.specs.declared.literal.LiteralInstance.{LiteralInstance}
use Rattle.wgsl_shader_type.specs.declared.tree.ShaderType.{ShaderType, out-ShaderType}
use Rattle.wgsl_shader_type.specs.declared.tree.ShaderType.TheOpen.{ShaderType-F}
use Rattle.wgsl_shader_type.specs.Alike as types
use Rattle.wgsl_shader_type.specs.Literal.{zero_fault}
use Rattle.wgsl_shader_type.specs.Rank.{converts}
use Rattle.wgsl_scalar.specs.declared.scalar.ScalarType.{ScalarType}
use Rattle.wgsl_scalar.specs.declared.scalar.ScalarType.TheVariants.{Bool as Truth, Integer}
use Rattle.wgsl_scalar.specs.declared.scalar.IntegerType.TheVariants.{AbstractInt, I32, U32}
use Rattle.wgsl_scalar.specs.Conversions as scalars
use Rattle.wgsl_instance.specs.declared.tree.ArrayInstanceOf.{ArrayInstanceOf}
use Rattle.wgsl_instance.specs.declared.tree.VecInstance.{VecInstance}
use Rattle.wgsl_instance.specs.declared.tree.Instance.{Instance, roll-Instance, out-Instance, map-Instance, para-Instance}
use Rattle.wgsl_instance.specs.declared.tree.Instance.TheVariants as v
use Rattle.wgsl_instance.specs.declared.tree.Instance.TheOpen.{Instance-F}
use Rattle.wgsl_instance.specs.Answer.{then_with, collected}
use Rattle.wgsl_instance.specs.Typed.{type_of}
use Rattle.wgsl_instance.specs.Zero.{Made}

abbrev pub scalar_layer : {A : Type 0} → ShaderType-F A → Option ScalarType
scalar_layer ShaderType-F.Bool = Some Truth
scalar_layer ShaderType-F.AbstractInt = Some (Integer AbstractInt)
scalar_layer ShaderType-F.I32 = Some (Integer I32)
scalar_layer ShaderType-F.U32 = Some (Integer U32)
scalar_layer x = None

-- the scalar type that has values here, if the type is one
abbrev pub scalar_of : ShaderType → Option ScalarType
scalar_of t = scalar_layer (out-ShaderType t)

abbrev pub to_scalar : ShaderType → Option ScalarType → LiteralInstance → Result LiteralInstance Error
to_scalar t (Some s) x = scalars.converted s x
to_scalar t None x = Err (zero_fault t)

-- A scalar, where its type converts. Floating types aren't supported.
abbrev pub converted_literal : ShaderType → LiteralInstance → Result LiteralInstance Error
converted_literal t x = to_scalar t (scalar_of t) x

abbrev pub vector_of : ScalarType → List LiteralInstance → Instance
vector_of s xs = v.Vec (record { ty = s; components = xs })

abbrev pub to_vector : ShaderType → Option ScalarType → List LiteralInstance → Made
to_vector t (Some s) xs = then_with (collected (scalars.converted s) xs) (λ ys. Ok (vector_of s ys))
to_vector t None xs = Err (zero_fault t)

-- component by component, to a component's type
abbrev pub converted_vector : ShaderType → VecInstance → Made
converted_vector t w = to_vector t (scalar_of t) w.components

abbrev pub array_of : Bool → ShaderType → List Instance → Instance
array_of sized t xs = v.Array (record { element = t; components = xs; runtime_sized = sized })

abbrev pub component_layer : {A : Type 0} → ShaderType-F A → Option A
component_layer (ShaderType-F.Vec n c) = Some c
component_layer x = None

-- the type of a vector's components
abbrev pub component_of : ShaderType → Option ShaderType
component_of t = component_layer (out-ShaderType t)

abbrev pub element_layer : {A : Type 0} → ShaderType-F A → Option A
element_layer (ShaderType-F.Array e n) = Some e
element_layer x = None

-- the type of an array's elements
abbrev pub element_of : ShaderType → Option ShaderType
element_of t = element_layer (out-ShaderType t)

abbrev pub vector_or : Made → VecInstance → Option ShaderType → Made
vector_or other w (Some c) = converted_vector c w
vector_or other w None = other

-- element by element, to an element's type
abbrev pub converted_array : {A : Type 0} → (A → ShaderType → Made) → ShaderType → ArrayInstanceOf A → Made
converted_array C e a = then_with (collected (λ x. C x e) a.components) (λ xs. Ok (array_of a.runtime_sized e xs))

abbrev pub array_or : {A : Type 0} → (A → ShaderType → Made) → Made → ArrayInstanceOf A → Option ShaderType → Made
array_or C other a (Some e) = converted_array C e a
array_or C other a None = other

-- A value whose type converts to another one: a scalar, or a vector or an array part by part.
abbrev pub parts_layer : {A : Type 0} → (A → ShaderType → Made) → Made → ShaderType → Instance-F A → Made
parts_layer C other t (Instance-F.Literal x) = then_with (converted_literal t x) (λ z. Ok (v.Literal z))
parts_layer C other t (Instance-F.Vec w) = vector_or other w (component_of t)
parts_layer C other t (Instance-F.Array a) = array_or C other a (element_of t)
parts_layer C other t x = other

abbrev pub mismatch : Instance → ShaderType → Made
mismatch x t = Err (Conversion (type_of x) t)

abbrev pub by_types : Bool → Bool → Made → Made → Made → Made
by_types true converting own parts other = own
by_types false true own parts other = parts
by_types false false own parts other = other

-- The value as it is, where the types are equal; else part by part, where they convert; else the types are the error.
abbrev pub converted_or : Instance → ShaderType → Made → Made
converted_or x t parts = by_types (types.same (type_of x) t) (converts (type_of x) t) (Ok x) parts (mismatch x t)

abbrev original : Instance-F (Instance × (ShaderType → Made)) → Instance
original x = roll-Instance (map-Instance (Instance × (ShaderType → Made)) Instance (λ pair. pair.0) x)

abbrev pub converted_layer : Instance-F (Instance × (ShaderType → Made)) → ShaderType → Made
converted_layer x t = converted_or (original x) t (parts_layer (λ pair. pair.1) (mismatch (original x) t) t x)

-- The value of a type that a value becomes where this type is asked for.
abbrev pub converted : Instance → ShaderType → Made
converted = para-Instance (ShaderType → Made) converted_layer

abbrev pub converted_parts : Instance → ShaderType → Made
converted_parts x t = parts_layer converted (mismatch x t) t (out-Instance x)
