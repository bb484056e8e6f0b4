-- What constructors build of values (WGSL, "Value Constructor Built-in Functions", "Zero Value Built-in Function").
use Rattle.std.specs.Prelude.{◌≡◌, ◌⊎◌, ℕ, false, List, [], ◌∷◌, ◌++◌, map, replicate, Option, Some, None, Result, Ok, Err, MatchResult}
use Rattle.wgsl_shader_type.specs.declared.error.Error.{Error}
use Rattle.wgsl_shader_type.specs.declared.error.Error.TheVariants.{OutOfMemory, NotScalar}
use Rattle.wgsl_shader_type.specs.declared.literal.LiteralInstance.{LiteralInstance}
use Rattle.wgsl_shader_type.specs.declared.tree.StructTypeOf.{StructTypeOf}
use Rattle.wgsl_shader_type.specs.declared.tree.StructMemberTypeOf.{StructMemberTypeOf}
use Rattle.wgsl_shader_type.specs.declared.tree.ShaderType.{ShaderType, out-ShaderType}
use Rattle.wgsl_shader_type.specs.declared.tree.ShaderType.TheVariants as type
use Rattle.wgsl_shader_type.specs.declared.tree.ShaderType.TheOpen.{ShaderType-F}
use Rattle.wgsl_shader_type.specs.Literal.{zero_fault}
use Rattle.wgsl_scalar.specs.declared.scalar.ScalarType.{ScalarType}
use Rattle.wgsl_scalar.specs.Conversions as scalars
use Rattle.wgsl_instance.specs.declared.tree.Instance.{Instance, out-Instance}
use Rattle.wgsl_instance.specs.declared.tree.Instance.TheVariants as v
use Rattle.wgsl_instance.specs.declared.tree.Instance.TheOpen.{Instance-F}
use Rattle.wgsl_instance.specs.Answer.{Answers, then_with, collected}
use Rattle.wgsl_instance.specs.Typed.{type_of}
use Rattle.wgsl_instance.specs.Zero.{Made, zero_value}
use Rattle.wgsl_instance.specs.Converted.{scalar_of, converted, vector_of, array_of}
use Rattle.wgsl_types.specs.Constructor.{FitStruct, IsStructFault}

-- ---- scalars

abbrev pub no_scalar : Instance → Error
no_scalar x = NotScalar (type_of x)

abbrev pub literal_layer : Instance → Instance-F Instance → Result LiteralInstance Error
literal_layer x (Instance-F.Literal z) = Ok z
literal_layer x y = Err (no_scalar x)

-- the scalar that a value is
abbrev pub literal_of : Instance → Result LiteralInstance Error
literal_of x = literal_layer x (out-Instance x)

abbrev pub cast_at : ShaderType → Option ScalarType → LiteralInstance → Result LiteralInstance Error
cast_at t (Some s) z = scalars.constructed s z
cast_at t None z = Err (zero_fault t)

-- What a scalar's constructor makes of a scalar. Floating types aren't supported.
abbrev pub cast : ShaderType → LiteralInstance → Result LiteralInstance Error
cast t z = cast_at t (scalar_of t) z

abbrev pub as_literal : Result LiteralInstance Error → Made
as_literal r = then_with r (λ z. Ok (v.Literal z))

abbrev pub built_scalar : ShaderType → Instance → Made
built_scalar t x = as_literal (then_with (literal_of x) (cast t))

-- ---- vectors

abbrev pub parts_layer : Instance → Instance-F Instance → Result (List LiteralInstance) Error
parts_layer x (Instance-F.Literal z) = Ok (z ∷ [])
parts_layer x (Instance-F.Vec w) = Ok w.components
parts_layer x y = Err (no_scalar x)

-- the components that an argument brings to a vector: a vector's, or itself
abbrev pub parts_of : Instance → Result (List LiteralInstance) Error
parts_of x = parts_layer x (out-Instance x)

-- the components that arguments bring, in order
abbrev pub all_parts : List Instance → Result (List LiteralInstance) Error
all_parts [] = Ok []
all_parts (x ∷ xs) = then_with (parts_of x) (λ parts. then_with (all_parts xs) (λ others. Ok (parts ++ others)))

-- one component stands for all
abbrev pub spread : ℕ → List LiteralInstance → List LiteralInstance
spread n (z ∷ []) = replicate n z
spread n parts = parts

abbrev pub vector_of_parts : ℕ → ScalarType → List LiteralInstance → Made
vector_of_parts n s parts = then_with (collected (scalars.constructed s) parts) (λ zs. Ok (vector_of s (spread n zs)))

abbrev pub vector_at : ℕ → ShaderType → Option ScalarType → List LiteralInstance → Made
vector_at n t (Some s) parts = vector_of_parts n s parts
vector_at n t None parts = Err (zero_fault t)

-- A vector of this many components of a type, each of which is cast. Where its type converts, a cast is a conversion; only one whole vector may be of another type.
abbrev pub built_vector : ℕ → ShaderType → List Instance → Made
built_vector n t args = then_with (all_parts args) (vector_at n t (scalar_of t))

-- ---- all types

-- An array of elements that are converted to its elements' type.
abbrev pub built_array : ShaderType → List Instance → Made
built_array t args = then_with (collected (λ x. converted x t) args) (λ xs. Ok (array_of false t xs))

abbrev pub built_layer : ShaderType → Instance → List Instance → ShaderType-F ShaderType → Made
built_layer t x args (ShaderType-F.Vec n component) = built_vector n component args
built_layer t x args (ShaderType-F.Array element count) = built_array element args
built_layer t x args y = built_scalar t x

-- The value of a type that is built of arguments: its zero value, where there are none.
abbrev pub built : ShaderType → List Instance → Made
built t [] = zero_value t
built t (x ∷ xs) = built_layer t x (x ∷ xs) (out-ShaderType t)

abbrev pub types_of : List Instance → List ShaderType
types_of args = map type_of args

abbrev pub built_as : Result ShaderType Error → List Instance → Result Instance Error → Type 0
built_as (Ok t) args answer = Answers (built t args) answer
built_as (Err e) args answer = answer ≡ Err e

-- A constructor gives the type that it makes of the arguments' types, and of that type what is built of them; it refuses what it refuses of their types.
abbrev pub Constructs : (List ShaderType → Result ShaderType Error → Type 0) → List Instance → Result Instance Error → Type 0
Constructs types args answer = (typed : Result ShaderType Error) × types (types_of args) typed × built_as typed args answer

-- ---- structs

-- each argument is converted to its member's type
abbrev pub converted_members : List (StructMemberTypeOf ShaderType) → List Instance → Result (List Instance) Error
converted_members (m ∷ ms) (x ∷ xs) = then_with (converted x m.ty) (λ y. then_with (converted_members ms xs) (λ ys. Ok (y ∷ ys)))
converted_members ms xs = Ok []

abbrev pub struct_of : StructTypeOf ShaderType → List Instance → Instance
struct_of s xs = v.Struct (record { ty = s; members = xs })

abbrev pub built_struct : StructTypeOf ShaderType → List Instance → Made
built_struct s [] = zero_value (type.Struct s)
built_struct s (x ∷ xs) = then_with (converted_members s.members (x ∷ xs)) (λ ys. Ok (struct_of s ys))

-- What a struct's constructor answers.
abbrev pub ConstructsStruct : StructTypeOf ShaderType → List Instance → Result Instance Error → Type 0
ConstructsStruct s args answer = MatchResult answer
    (λ value. FitStruct s.members (types_of args) × (built_struct s args ≡ Ok value))
    (λ fault. (fault ≡ OutOfMemory) ⊎ (IsStructFault s.name s.members (types_of args) fault ⊎ (FitStruct s.members (types_of args) × (built_struct s args ≡ Err fault))))
