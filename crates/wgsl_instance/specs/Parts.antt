-- Members, components and elements of values (WGSL, "Composite Value Decomposition Expressions"), and pointers.
use Rattle.std.specs.Prelude.{ℕ, ◌==◌, ◌&&◌, ◌||◌, ℤ, pos, negsuc, Bool, true, false, List, [], ◌∷◌, length, Option, Some, None, Result, Ok, Err, nat_lt, nat_le, position, option_and_then, slice_get, if◌then◌else◌}
use Rattle.std.specs.List.{list_all}
use Rattle.std.specs.Str.{bytes_eq}
use Rattle.wgsl_words.specs.declared.enumerations.address.AddressSpace.{AddressSpace}
use Rattle.wgsl_words.specs.declared.enumerations.address.AddressSpace.TheVariants.{Handle}
use Rattle.wgsl_shader_type.specs.UnaryOperator.TheVariants.{AddressOf, Indirection}
use Rattle.wgsl_shader_type.specs.declared.error.Error.{Error}
use Rattle.wgsl_shader_type.specs.declared.error.Error.TheVariants as error
use Rattle.wgsl_shader_type.specs.declared.literal.LiteralInstance.{LiteralInstance}
use Rattle.wgsl_shader_type.specs.declared.tree.StructMemberTypeOf.{StructMemberTypeOf}
use Rattle.wgsl_shader_type.specs.declared.tree.ShaderType.{ShaderType}
use Rattle.wgsl_shader_type.specs.declared.tree.ShaderType.TheVariants as type
use Rattle.wgsl_scalar.specs.declared.scalar.ScalarType.{ScalarType}
use Rattle.wgsl_instance.specs.declared.tree.StructInstanceOf.{StructInstanceOf}
use Rattle.wgsl_instance.specs.declared.tree.ArrayInstanceOf.{ArrayInstanceOf}
use Rattle.wgsl_instance.specs.declared.tree.VecInstance.{VecInstance}
use Rattle.wgsl_instance.specs.declared.tree.RefInstance.{RefInstance}
use Rattle.wgsl_instance.specs.declared.tree.Step.{Step}
use Rattle.wgsl_instance.specs.declared.tree.Step.TheVariants.{Component}
use Rattle.wgsl_instance.specs.declared.tree.Instance.{Instance, out-Instance}
use Rattle.wgsl_instance.specs.declared.tree.Instance.TheVariants as v
use Rattle.wgsl_instance.specs.declared.tree.Instance.TheOpen.{Instance-F}
use Rattle.wgsl_instance.specs.Answer.{then_with, collected, or_error}
use Rattle.wgsl_instance.specs.Typed.{type_of, vector_type, array_type}
use Rattle.wgsl_instance.specs.Zero.{Made}

-- ---- names of components

abbrev pub is_xyzw : ℕ → Bool
is_xyzw c = (c == 120) || (c == 121) || (c == 122) || (c == 119)

abbrev pub is_rgba : ℕ → Bool
is_rgba c = (c == 114) || (c == 103) || (c == 98) || (c == 97)

-- `x` and `r` are the first component, `y` and `g` the second, `z` and `b` the third, `w` and `a` the fourth
abbrev pub letter_index : ℕ → ℕ
letter_index c =
    if (c == 120) || (c == 114) then 0 else (if (c == 121) || (c == 103) then 1 else (if (c == 122) || (c == 98) then 2 else 3))

-- 1 to 4 letters, all of `xyzw` or all of `rgba`
abbrev pub is_swizzle : List ℕ → Bool
is_swizzle name = nat_le 1 (length name) && nat_le (length name) 4 && (list_all is_xyzw name || list_all is_rgba name)

-- ---- positions

-- an index in a list of so many
abbrev pub in_range : ℤ → ℕ → Option ℕ
in_range (pos i) n = if nat_lt i n then Some i else None
in_range (negsuc i) n = None

-- the first member of this name
abbrev pub member_position : List ℕ → List (StructMemberTypeOf ShaderType) → Option ℕ
member_position name ms = position (λ m. bytes_eq m.name name) ms

-- the refusal of a name that is no member and no component
abbrev pub no_component : ShaderType → List ℕ → Error
no_component t name = error.Component t name

-- ---- values

abbrev pub component_or : VecInstance → ℕ → Option LiteralInstance → Result LiteralInstance Error
component_or w i (Some x) = Ok x
component_or w i None = Err (error.OutOfBounds (pos i) (vector_type w) (length w.components))

-- the component that a letter names
abbrev pub lettered : VecInstance → ℕ → Result LiteralInstance Error
lettered w c = component_or w (letter_index c) (slice_get w.components (letter_index c))

abbrev pub only : {A : Type 0} → List A → Option A
only (x ∷ []) = Some x
only xs = None

abbrev pub vector_or : ScalarType → List LiteralInstance → Option LiteralInstance → Instance
vector_or t xs (Some x) = v.Literal x
vector_or t xs None = v.Vec (record { ty = t; components = xs })

-- the scalar where it is one, else a vector
abbrev pub of_components : ScalarType → List LiteralInstance → Instance
of_components t xs = vector_or t xs (only xs)

abbrev pub swizzled : VecInstance → List ℕ → Made
swizzled w name =
    if is_swizzle name then then_with (collected (lettered w) name) (λ xs. Ok (of_components w.ty xs)) else Err (no_component (vector_type w) name)

abbrev pub member_of : StructInstanceOf Instance → List ℕ → Made
member_of s name = or_error (option_and_then (slice_get s.members) (member_position name s.ty.members)) (no_component (type.Struct s.ty) name)

abbrev pub member_layer : Instance → List ℕ → Instance-F Instance → Made
member_layer x name (Instance-F.Struct s) = member_of s name
member_layer x name (Instance-F.Vec w) = swizzled w name
member_layer x name y = Err (no_component (type_of x) name)

-- A member of a struct, or the components of a vector that letters name.
abbrev pub member : Instance → List ℕ → Made
member x name = member_layer x name (out-Instance x)

abbrev pub element : ArrayInstanceOf Instance → ℤ → Made
element a index = or_error (option_and_then (slice_get a.components) (in_range index (length a.components))) (error.OutOfBounds index (array_type a) (length a.components))

abbrev pub component : VecInstance → ℤ → Result LiteralInstance Error
component w index = or_error (option_and_then (slice_get w.components) (in_range index (length w.components))) (error.OutOfBounds index (vector_type w) (length w.components))

abbrev pub index_layer : Instance → ℤ → Instance-F Instance → Made
index_layer x index (Instance-F.Array a) = element a index
index_layer x index (Instance-F.Vec w) = then_with (component w index) (λ c. Ok (v.Literal c))
index_layer x index y = Err (error.NotIndexable (type_of x))

-- An element of an array, or a component of a vector.
abbrev pub indexed : Instance → ℤ → Made
indexed x index = index_layer x index (out-Instance x)

-- ---- pointers (WGSL, "Address-Of Expression", "Indirection Expression")

abbrev pub is_component : Step → Bool
is_component (Component i) = true
is_component step = false

-- whether the last step is one to a component; without a step, as it was before
abbrev pub ends_after : Bool → List Step → Bool
ends_after before [] = before
ends_after before (step ∷ path) = ends_after (is_component step) path

abbrev pub ends_in_component : List Step → Bool
ends_in_component path = ends_after false path

abbrev pub is_handle : AddressSpace → Bool
is_handle Handle = true
is_handle space = false

-- There is no pointer into the handle space, nor to a component of a vector.
abbrev pub pointer_to : RefInstance → Made
pointer_to r = if is_handle r.space then Err error.PtrHandle else (if ends_in_component r.path then Err error.PtrVecComp else Ok (v.Ptr (record { reference = r })))

abbrev pub address_layer : Instance → Instance-F Instance → Made
address_layer x (Instance-F.Ref r) = pointer_to r
address_layer x y = Err (error.Unary AddressOf (type_of x))

-- what `&` gives
abbrev pub address_of : Instance → Made
address_of x = address_layer x (out-Instance x)

abbrev pub indirection_layer : Instance → Instance-F Instance → Made
indirection_layer x (Instance-F.Ptr p) = Ok (v.Ref p.reference)
indirection_layer x y = Err (error.Unary Indirection (type_of x))

-- what `*` gives
abbrev pub indirection : Instance → Made
indirection x = indirection_layer x (out-Instance x)
