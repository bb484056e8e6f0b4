-- The classes of types (WGSL, "Scalar types", "Abstract types", "Storable types").
use Rattle.std.specs.Prelude.{Bool, true, false, ◌&&◌, ◌||◌, not}
use Rattle.wgsl_shader_type.specs.declared.tree.ShaderType.{ShaderType, out-ShaderType, roll-ShaderType, map-ShaderType, fold-ShaderType, para-ShaderType}
use Rattle.wgsl_shader_type.specs.declared.tree.ShaderType.TheVariants as v
use Rattle.wgsl_shader_type.specs.declared.tree.ShaderType.TheOpen.{ShaderType-F}

abbrev pub integer_layer : {A : Type 0} → ShaderType-F A → Bool
integer_layer ShaderType-F.AbstractInt = true
integer_layer ShaderType-F.I32 = true
integer_layer ShaderType-F.U32 = true
integer_layer _ = false

abbrev pub is_integer : ShaderType → Bool
is_integer t = integer_layer (out-ShaderType t)

abbrev pub float_layer : {A : Type 0} → ShaderType-F A → Bool
float_layer ShaderType-F.AbstractFloat = true
float_layer ShaderType-F.F32 = true
float_layer ShaderType-F.F16 = true
float_layer _ = false

abbrev pub is_float : ShaderType → Bool
is_float t = float_layer (out-ShaderType t)

abbrev pub is_numeric : ShaderType → Bool
is_numeric t = is_integer t || is_float t

abbrev pub bool_layer : {A : Type 0} → ShaderType-F A → Bool
bool_layer ShaderType-F.Bool = true
bool_layer _ = false

abbrev pub is_bool : ShaderType → Bool
is_bool t = bool_layer (out-ShaderType t)

-- Bool and the six numeric types
abbrev pub is_scalar : ShaderType → Bool
is_scalar t = is_bool t || is_numeric t

-- The abstract numeric types, and vectors and arrays of them.
abbrev pub abstract_layer : ShaderType-F Bool → Bool
abstract_layer ShaderType-F.AbstractInt = true
abstract_layer ShaderType-F.AbstractFloat = true
abstract_layer (ShaderType-F.Array element n) = element
abstract_layer (ShaderType-F.Vec n component) = component
abstract_layer _ = false

abbrev pub is_abstract : ShaderType → Bool
is_abstract = fold-ShaderType Bool abstract_layer

abbrev pub is_concrete : ShaderType → Bool
is_concrete t = not (is_abstract t)

abbrev pub handle_layer : {A : Type 0} → ShaderType-F A → Bool
handle_layer (ShaderType-F.Ptr space stored access) = true
handle_layer (ShaderType-F.Ref space stored access) = true
handle_layer _ = false

-- a pointer or a reference
abbrev pub is_handle : ShaderType → Bool
is_handle t = handle_layer (out-ShaderType t)

abbrev pub is_storable : ShaderType → Bool
is_storable t = is_concrete t && not (is_handle t)

abbrev pub array_layer : {A : Type 0} → ShaderType-F A → Bool
array_layer (ShaderType-F.Array element n) = true
array_layer _ = false

abbrev pub is_array : ShaderType → Bool
is_array t = array_layer (out-ShaderType t)

abbrev pub vector_layer : {A : Type 0} → ShaderType-F A → Bool
vector_layer (ShaderType-F.Vec n component) = true
vector_layer _ = false

abbrev pub is_vector : ShaderType → Bool
is_vector t = vector_layer (out-ShaderType t)

abbrev pub struct_layer : {A : Type 0} → ShaderType-F A → Bool
struct_layer (ShaderType-F.Struct s) = true
struct_layer _ = false

abbrev pub is_struct : ShaderType → Bool
is_struct t = struct_layer (out-ShaderType t)

-- a type as it stood, of the pairs of a type and what a definition makes of it
abbrev pub as_it_stood : ShaderType-F (ShaderType × ShaderType) → ShaderType
as_it_stood x = roll-ShaderType (map-ShaderType (ShaderType × ShaderType) ShaderType (λ pair. pair.0) x)

-- The concrete type that an abstract one becomes where no other is asked for: AbstractInt is I32, AbstractFloat is F32, under vectors and arrays too (WGSL, "Abstract numeric types").
abbrev pub concrete_layer : ShaderType-F (ShaderType × ShaderType) → ShaderType
concrete_layer ShaderType-F.AbstractInt = v.I32
concrete_layer ShaderType-F.AbstractFloat = v.F32
concrete_layer (ShaderType-F.Array element n) = v.Array element.1 n
concrete_layer (ShaderType-F.Vec n component) = v.Vec n component.1
concrete_layer x = as_it_stood x

abbrev pub concrete_type : ShaderType → ShaderType
concrete_type = para-ShaderType ShaderType concrete_layer

-- The type of what is read where an expression gives a reference: the references are taken off (WGSL, "Load rule").
abbrev pub loaded_layer : ShaderType-F (ShaderType × ShaderType) → ShaderType
loaded_layer (ShaderType-F.Ref space stored access) = stored.1
loaded_layer x = as_it_stood x

abbrev pub loaded_type : ShaderType → ShaderType
loaded_type = para-ShaderType ShaderType loaded_layer
