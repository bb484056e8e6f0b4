-- The type of a value, and which values are well formed (WGSL, "Types").
use Rattle.std.specs.Prelude.{◌≡◌, ℕ, ◌≤◌, min, List, [], ◌∷◌, length, All, Bool, true, false, Option, Some, None}
use Rattle.wgsl_shader_type.specs.declared.literal.LiteralInstance.{LiteralInstance}
use Rattle.wgsl_shader_type.specs.declared.tree.ShaderType.{ShaderType}
use Rattle.wgsl_shader_type.specs.declared.tree.ShaderType.TheVariants as type
use Rattle.wgsl_shader_type.specs.declared.tree.StructMemberTypeOf.{StructMemberTypeOf}
use Rattle.wgsl_scalar.specs.Scalars as scalars
use Rattle.wgsl_instance.specs.declared.tree.StructInstanceOf.{StructInstanceOf}
use Rattle.wgsl_instance.specs.declared.tree.ArrayInstanceOf.{ArrayInstanceOf}
use Rattle.wgsl_instance.specs.declared.tree.VecInstance.{VecInstance}
use Rattle.wgsl_instance.specs.declared.tree.RefInstance.{RefInstance}
use Rattle.wgsl_instance.specs.declared.tree.PtrInstance.{PtrInstance}
use Rattle.wgsl_instance.specs.declared.tree.Instance.{Instance, out-Instance}
use Rattle.wgsl_instance.specs.declared.tree.Instance.TheVariants as v
use Rattle.wgsl_instance.specs.declared.tree.Instance.TheOpen.{Instance-F}

-- the type of a scalar
abbrev pub literal_type : LiteralInstance → ShaderType
literal_type x = scalars.scalar_type (scalars.type_of x)

-- The number of components in a vector's type. It is below 256 there; a well formed vector has 2 to 4.
abbrev pub component_count : {A : Type 0} → List A → ℕ
component_count xs = min (length xs) 255

-- the number of elements in an array's type, which a runtime-sized array doesn't have
abbrev pub element_count : Bool → ℕ → Option ℕ
element_count true n = None
element_count false n = Some n

abbrev pub vector_type : VecInstance → ShaderType
vector_type w = type.Vec (component_count w.components) (scalars.scalar_type w.ty)

abbrev pub array_type : {A : Type 0} → ArrayInstanceOf A → ShaderType
array_type a = type.Array a.element (element_count a.runtime_sized (length a.components))

abbrev pub pointer_type : RefInstance → ShaderType
pointer_type r = type.Ptr r.space r.ty r.access

abbrev pub reference_type : RefInstance → ShaderType
reference_type r = type.Ref r.space r.ty r.access

abbrev pub type_layer : {A : Type 0} → Instance-F A → ShaderType
type_layer (Instance-F.Literal x) = literal_type x
type_layer (Instance-F.Struct s) = type.Struct s.ty
type_layer (Instance-F.Array a) = array_type a
type_layer (Instance-F.Vec w) = vector_type w
type_layer (Instance-F.Ptr p) = pointer_type p.reference
type_layer (Instance-F.Ref r) = reference_type r
type_layer (Instance-F.Deferred t) = t

-- The type of a value, as the value carries it.
abbrev pub type_of : Instance → ShaderType
type_of x = type_layer (out-Instance x)

-- 2 to 4 components, each of the vector's scalar type
pub record IsVector (w : VecInstance) : Type 0 where
  pub two : 2 ≤ length w.components
  pub four : length w.components ≤ 4
  pub alike : All (λ x. scalars.type_of x ≡ w.ty) w.components

-- A value whose parts have the types that its own type gives them.
mutual
  pub data IsWellFormed : Instance → Type 0 where
    literal : (x : LiteralInstance) → IsWellFormed (v.Literal x)
    struct : (s : StructInstanceOf Instance) → AreMembers s.ty.members s.members → IsWellFormed (v.Struct s)
    array : (a : ArrayInstanceOf Instance) → AreElements a.element a.components → IsWellFormed (v.Array a)
    vector : (w : VecInstance) → IsVector w → IsWellFormed (v.Vec w)
    pointer : (p : PtrInstance) → IsWellFormed (v.Ptr p)
    reference : (r : RefInstance) → IsWellFormed (v.Ref r)
    deferred : (t : ShaderType) → IsWellFormed (v.Deferred t)

  -- a value of the right type for each member, in order
  pub data AreMembers : List (StructMemberTypeOf ShaderType) → List Instance → Type 0 where
    no_members : AreMembers [] []
    member : {m : StructMemberTypeOf ShaderType} {ms : List (StructMemberTypeOf ShaderType)} {x : Instance} {xs : List Instance}
        → IsWellFormed x → type_of x ≡ m.ty → AreMembers ms xs → AreMembers (m ∷ ms) (x ∷ xs)

  pub data AreElements : ShaderType → List Instance → Type 0 where
    no_elements : {t : ShaderType} → AreElements t []
    element : {t : ShaderType} {x : Instance} {xs : List Instance} → IsWellFormed x → type_of x ≡ t → AreElements t xs → AreElements t (x ∷ xs)

-- A well formed value of this type.
pub record HasType (x : Instance) (t : ShaderType) : Type 0 where
  pub formed : IsWellFormed x
  pub typed : type_of x ≡ t
