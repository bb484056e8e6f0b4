-- How types lie in memory, in bytes (WGSL, "Alignment and Size", "Structure Member Layout").
use Rattle.std.specs.Prelude.{◌≡◌, ℕ, ◌+◌, ◌*◌, ◌^◌, ◌<◌, ◌≤◌, max, List, [], ◌∷◌, Option, Some, None, unwrap_or}
use Rattle.wgsl_shader_type.specs.declared.tree.StructTypeOf.{StructTypeOf}
use Rattle.wgsl_shader_type.specs.declared.tree.StructMemberTypeOf.{StructMemberTypeOf}
use Rattle.wgsl_shader_type.specs.declared.tree.ShaderType.{ShaderType}
use Rattle.wgsl_shader_type.specs.declared.tree.ShaderType.TheVariants.{Bool, I32, U32, F32, F16, Vec, Array, Struct}

-- The size of a scalar is its alignment too. Abstract types have neither.
pub data IsScalarSize : ShaderType → ℕ → Type 0 where
  bool : IsScalarSize Bool 4
  i32 : IsScalarSize I32 4
  u32 : IsScalarSize U32 4
  f32 : IsScalarSize F32 4
  f16 : IsScalarSize F16 2

-- A vector of so many components is aligned as so many scalars are long.
pub data IsVectorAlignment : ℕ → ℕ → Type 0 where
  two : IsVectorAlignment 2 2
  three : IsVectorAlignment 3 4
  four : IsVectorAlignment 4 4

-- What an attribute gives, or else what the type has.
abbrev pub given_or : Option ℕ → ℕ → ℕ
given_or given natural = unwrap_or given natural

-- The alignment of a type. That of an array is its elements', that of a struct the largest of its members', of which there is one at least. No alignment is 0.
mutual
  pub data IsAlignment : ShaderType → ℕ → Type 0 where
    scalar : {t : ShaderType} {n : ℕ} → IsScalarSize t n → IsAlignment t n
    vector : {t : ShaderType} {n components scalars : ℕ} → IsScalarSize t n → IsVectorAlignment components scalars → IsAlignment (Vec components t) (scalars * n)
    array : {t : ShaderType} {align : ℕ} (count : Option ℕ) → IsAlignment t align → IsAlignment (Array t count) align
    struct : (s : StructTypeOf ShaderType) {largest : ℕ} → IsLargestAlignment s.members largest → 0 < largest → IsAlignment (Struct s) largest

  pub data IsLargestAlignment : List (StructMemberTypeOf ShaderType) → ℕ → Type 0 where
    none : IsLargestAlignment [] 0
    more : {m : StructMemberTypeOf ShaderType} {ms : List (StructMemberTypeOf ShaderType)} {align rest : ℕ}
        → IsAlignment m.ty align → 0 < given_or m.align align → IsLargestAlignment ms rest → IsLargestAlignment (m ∷ ms) (max (given_or m.align align) rest)

-- A number of bytes fits where a `u32` holds it.
abbrev pub Fits : ℕ → Type 0
Fits n = n < 2 ^ 32

pub record IsMultiple (k n : ℕ) : Type 0 where
  pub times : ℕ
  pub equal : n ≡ times * k

-- The least multiple of an alignment at or past a place.
pub record IsRoundedUp (align place n : ℕ) : Type 0 where
  pub multiple : IsMultiple align n
  pub past : place ≤ n
  pub least : (m : ℕ) → IsMultiple align m → place ≤ m → n ≤ m

-- What a member of a struct takes.
pub record Extent : Type 0 where
  pub size : ℕ
  pub align : ℕ

-- An aligned placement of members in order: each begins at a multiple of its alignment, at or past the end of the one before; the last ends at or before `total`.
pub data Placement : List Extent → ℕ → ℕ → Type 0 where
  done : {from total : ℕ} → from ≤ total → Placement [] from total
  place : {extent : Extent} {extents : List Extent} {from total : ℕ} (at : ℕ)
      → from ≤ at → IsMultiple extent.align at → Placement extents (at + extent.size) total → Placement (extent ∷ extents) from total

-- The size of a struct is the least total that is a multiple of its alignment and in which its members have an aligned placement in order.
pub record IsLeastTotal (align : ℕ) (extents : List Extent) (total : ℕ) : Type 0 where
  pub multiple : IsMultiple align total
  pub placement : Placement extents 0 total
  pub least : (m : ℕ) → IsMultiple align m → Placement extents 0 m → total ≤ m

-- How many elements an array has, where one without a length counts as having `unsized`, if that is given.
abbrev pub count_or : Option ℕ → Option ℕ → Option ℕ
count_or (Some count) unsized = Some count
count_or None unsized = unsized

-- The size of a type, within a `u32`. An array has its elements at the stride that is their size rounded up to their alignment.
module _ (unsized : Option ℕ) where
  mutual
    pub data IsSize : ShaderType → ℕ → Type 0 where
      scalar : {t : ShaderType} {n : ℕ} → IsScalarSize t n → IsSize t n
      vector : {t : ShaderType} {n components scalars : ℕ} → IsScalarSize t n → IsVectorAlignment components scalars → IsSize (Vec components t) (components * n)
      array : {t : ShaderType} {align size stride count : ℕ} {length : Option ℕ} → IsAlignment t align → IsSize t size → IsRoundedUp align size stride → Fits stride
          → count_or length unsized ≡ Some count → Fits (count * stride) → IsSize (Array t length) (count * stride)
      struct : (s : StructTypeOf ShaderType) {align total : ℕ} {extents : List Extent} → IsAlignment (Struct s) align → HasExtents s.members extents
          → IsLeastTotal align extents total → Fits total → IsSize (Struct s) total

    pub data HasExtents : List (StructMemberTypeOf ShaderType) → List Extent → Type 0 where
      none : HasExtents [] []
      more : {m : StructMemberTypeOf ShaderType} {ms : List (StructMemberTypeOf ShaderType)} {align size : ℕ} {extents : List Extent}
          → IsAlignment m.ty align → 0 < given_or m.align align → IsSize m.ty size → HasExtents ms extents → HasExtents (m ∷ ms) (record { size = given_or m.size size; align = given_or m.align align } ∷ extents)

abbrev pub HasNoAlignment : ShaderType → Type 0
HasNoAlignment t = (align : ℕ) → IsAlignment t align → ⊥

abbrev pub HasNoSize : Option ℕ → ShaderType → Type 0
HasNoSize unsized t = (size : ℕ) → IsSize unsized t size → ⊥
