-- The zero value of a type (WGSL, "Zero Value Built-in Function").
use Rattle.std.specs.Prelude.{ℕ, ◌&&◌, Bool, false, List, Option, Some, None, Result, Ok, Err, nat_le, replicate, if◌then◌else◌}
use Rattle.wgsl_shader_type.specs.declared.error.Error.{Error}
use Rattle.wgsl_shader_type.specs.declared.error.Error.TheVariants.{NotConstructible}
use Rattle.wgsl_shader_type.specs.declared.literal.LiteralInstance.{LiteralInstance}
use Rattle.wgsl_shader_type.specs.declared.tree.ShaderType.{ShaderType, roll-ShaderType, map-ShaderType, para-ShaderType}
use Rattle.wgsl_shader_type.specs.declared.tree.ShaderType.TheVariants as type
use Rattle.wgsl_shader_type.specs.declared.tree.ShaderType.TheOpen.{ShaderType-F}
use Rattle.wgsl_shader_type.specs.declared.tree.StructTypeOf.{StructTypeOf}
use Rattle.wgsl_shader_type.specs.declared.tree.StructMemberTypeOf.{StructMemberTypeOf}
use Rattle.wgsl_shader_type.specs.Literal.{zero_of, zero_fault}
use Rattle.wgsl_shader_type.specs.Trees.{struct_at}
use Rattle.wgsl_scalar.specs.Scalars as scalars
use Rattle.wgsl_instance.specs.declared.tree.Instance.{Instance}
use Rattle.wgsl_instance.specs.declared.tree.Instance.TheVariants as v
use Rattle.wgsl_instance.specs.Answer.{then_with, collected}

abbrev pub Made : Type 0
Made = Result Instance Error

-- a vector has 2 to 4 components
abbrev pub is_vector_size : ℕ → Bool
is_vector_size n = nat_le 2 n && nat_le n 4

abbrev pub or_fault : ShaderType → Option LiteralInstance → Result LiteralInstance Error
or_fault t (Some x) = Ok x
or_fault t None = Err (zero_fault t)

-- The zero value of a scalar type. A floating type, which isn't supported, and what is no scalar have none.
abbrev pub zero_literal : ShaderType → Result LiteralInstance Error
zero_literal t = or_fault t (zero_of t)

abbrev pub zero_scalar : ShaderType → Made
zero_scalar t = then_with (zero_literal t) (λ x. Ok (v.Literal x))

-- so many components, each of them this scalar
abbrev pub splat : ℕ → LiteralInstance → Instance
splat n x = v.Vec (record { ty = scalars.type_of x; components = replicate n x })

abbrev pub zero_vector : ℕ → ShaderType → Made
zero_vector n t = if is_vector_size n then then_with (zero_literal t) (λ x. Ok (splat n x)) else Err (NotConstructible (type.Vec n t))

abbrev pub filled_array : ShaderType → ℕ → Instance → Instance
filled_array t n x = v.Array (record { element = t; components = replicate n x; runtime_sized = false })

-- an array of so many elements of a type, whose zero value stands beside it
abbrev pub zero_array : ShaderType → Option ℕ → Made → Made
zero_array t (Some n) zero = then_with zero (λ x. Ok (filled_array t n x))
zero_array t None zero = Err (NotConstructible (type.Array t None))

abbrev pub struct_of : StructTypeOf ShaderType → List Instance → Made
struct_of s xs = Ok (v.Struct (record { ty = s; members = xs }))

abbrev original : {A : Type 0} → ShaderType-F (ShaderType × A) → ShaderType
original {A} x = roll-ShaderType (map-ShaderType (ShaderType × A) ShaderType (λ pair. pair.0) x)

abbrev pub zero_layer : ShaderType-F (ShaderType × Made) → Made
zero_layer (ShaderType-F.Struct s) = then_with (collected (λ m. m.ty.1) s.members) (struct_of (struct_at (λ pair. pair.0) s))
zero_layer (ShaderType-F.Array t n) = zero_array t.0 n t.1
zero_layer (ShaderType-F.Vec n t) = zero_vector n t.0
zero_layer (ShaderType-F.Ptr space t access) = Err (NotConstructible (type.Ptr space t.0 access))
zero_layer (ShaderType-F.Ref space t access) = Err (NotConstructible (type.Ref space t.0 access))
zero_layer x = zero_scalar (original x)

-- The zero value: each part is the zero value of its type. Pointers, references and arrays without a count have none.
abbrev pub zero_value : ShaderType → Made
zero_value = para-ShaderType Made zero_layer

-- of a member
abbrev pub zero_member : StructMemberTypeOf ShaderType → Made
zero_member m = zero_value m.ty
