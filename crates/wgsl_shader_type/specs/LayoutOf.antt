-- The alignment and the size of a type, computed member by member. That these are what `Layout` says, `Layouts` of the proofs shows.
use Rattle.std.specs.Prelude.{ℕ, ◌+◌, ◌-◌, ◌*◌, ◌/◌, ◌^◌, ◌<◌, ◌≤◌, max, List, [], ◌∷◌, Option, Some, None, option_and_then, nat_lt, ◌==◌, if◌then◌else◌}
use Rattle.wgsl_shader_type.specs.declared.tree.StructMemberTypeOf.{StructMemberTypeOf}
use Rattle.wgsl_shader_type.specs.declared.tree.ShaderType.{ShaderType, out-ShaderType, para-ShaderType}
use Rattle.wgsl_shader_type.specs.declared.tree.ShaderType.TheOpen.{ShaderType-F}
use Rattle.wgsl_shader_type.specs.Trees.{struct_at}
use Rattle.wgsl_shader_type.specs.Layout.{given_or, count_or}

infixl 10 ◌>>=◌
abbrev pub ◌>>=◌ : {A B : Type 0} → Option A → (A → Option B) → Option B
o >>= f = option_and_then f o

abbrev pub scalar_layer : {A : Type 0} → ShaderType-F A → Option ℕ
scalar_layer ShaderType-F.Bool = Some 4
scalar_layer ShaderType-F.I32 = Some 4
scalar_layer ShaderType-F.U32 = Some 4
scalar_layer ShaderType-F.F32 = Some 4
scalar_layer ShaderType-F.F16 = Some 2
scalar_layer _ = None

-- the size of a scalar: some bytes, of which a few scalars are no matter for a `u32`
abbrev pub IsSmall : ℕ → Type 0
IsSmall size = (0 < size) × (size ≤ 4)

abbrev pub scalar_size : ShaderType → Option ℕ
scalar_size t = scalar_layer (out-ShaderType t)

-- so many scalars, where the number of components is that of a vector
abbrev pub vector_scalars : ℕ → Option ℕ
vector_scalars n = if n == 2 then Some 2 else (if n == 3 then Some 4 else (if n == 4 then Some 4 else None))

-- an alignment, which is not 0
abbrev pub nonzero : ℕ → Option ℕ
nonzero n = if nat_lt 0 n then Some n else None

-- a number of bytes within a `u32`
abbrev pub within : ℕ → Option ℕ
within n = if nat_lt n (2 ^ 32) then Some n else None

abbrev pub own_align : {A : Type 0} → (A → Option ℕ) → StructMemberTypeOf A → Option ℕ
own_align align m = do
  natural ← align m.ty
  nonzero (given_or m.align natural)

-- the largest alignment of members, or of those before
abbrev pub largest_after : {A : Type 0} → (A → Option ℕ) → ℕ → List (StructMemberTypeOf A) → Option ℕ
largest_after align largest [] = Some largest
largest_after align largest (m ∷ ms) = do
  own ← own_align align m
  largest_after align (max largest own) ms

abbrev pub vector_align : Option ℕ → ℕ → Option ℕ
vector_align scalar n = do
  size ← scalar
  scalars ← vector_scalars n
  Some (scalars * size)

abbrev pub align_layer : ShaderType-F (ShaderType × Option ℕ) → Option ℕ
align_layer (ShaderType-F.Array element n) = element.1
align_layer (ShaderType-F.Vec n component) = vector_align (scalar_size component.0) n
align_layer (ShaderType-F.Struct s) = do
  largest ← largest_after (λ pair. pair.1) 0 s.members
  nonzero largest
align_layer x = scalar_layer x

abbrev pub align_of : ShaderType → Option ℕ
align_of = para-ShaderType (Option ℕ) align_layer

-- the least multiple of an alignment at or past a place
abbrev pub rounded : ℕ → ℕ → Option ℕ
rounded align place = within (((place + align - 1) / align) * align)

abbrev pub vector_size : Option ℕ → ℕ → Option ℕ
vector_size scalar n = do
  size ← scalar
  scalars ← vector_scalars n
  Some (n * size)

abbrev pub array_size : Option ℕ → Option ℕ → Option ℕ → Option ℕ
array_size align size count = do
  a ← align
  s ← size
  stride ← rounded a s
  n ← count
  within (n * stride)

-- where a member ends that is placed at or past `from`
abbrev pub member_end : {A : Type 0} → (A → Option ℕ) → (A → Option ℕ) → ℕ → StructMemberTypeOf A → Option ℕ
member_end align size from m = do
  own ← own_align align m
  natural ← size m.ty
  at ← rounded own from
  within (at + given_or m.size natural)

abbrev pub end_after : {A : Type 0} → (A → Option ℕ) → (A → Option ℕ) → ℕ → List (StructMemberTypeOf A) → Option ℕ
end_after align size from [] = Some from
end_after align size from (m ∷ ms) = do
  end ← member_end align size from m
  end_after align size end ms

abbrev pub struct_size : Option ℕ → Option ℕ → Option ℕ
struct_size align end = do
  a ← align
  e ← end
  rounded a e

abbrev pub size_layer : Option ℕ → ShaderType-F (ShaderType × Option ℕ) → Option ℕ
size_layer unsized (ShaderType-F.Array element n) = array_size (align_of element.0) element.1 (count_or n unsized)
size_layer unsized (ShaderType-F.Vec n component) = vector_size (scalar_size component.0) n
size_layer unsized (ShaderType-F.Struct s) =
    struct_size (align_layer (ShaderType-F.Struct (struct_at (λ pair. (pair.0, align_of pair.0)) s))) (end_after (λ pair. align_of pair.0) (λ pair. pair.1) 0 s.members)
size_layer unsized x = scalar_layer x

unfoldable pub size_of : Option ℕ → ShaderType → Option ℕ
size_of unsized = para-ShaderType (Option ℕ) (size_layer unsized)
