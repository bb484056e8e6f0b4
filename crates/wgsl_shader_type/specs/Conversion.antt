-- Implicit conversions between types (WGSL, "Conversion rank", with the feasible automatic conversions taken apart into single steps).
use Rattle.std.specs.Prelude.{◌≡◌, ℕ, ◌+◌, ◌≤◌, List, All, Contains, Option}
use Rattle.wgsl_shader_type.specs.declared.tree.ShaderType.{ShaderType}
use Rattle.wgsl_shader_type.specs.declared.tree.ShaderType.TheVariants.{AbstractInt, AbstractFloat, I32, U32, F32, F16, Vec, Array}

-- One step, and its weight: five single conversions, and the same under vectors and arrays. A struct, a pointer and a reference have none.
pub data Step : ShaderType → ShaderType → ℕ → Type 0 where
  abstract_float_to_f32 : Step AbstractFloat F32 1
  abstract_float_to_f16 : Step AbstractFloat F16 2
  abstract_int_to_i32 : Step AbstractInt I32 3
  abstract_int_to_u32 : Step AbstractInt U32 4
  abstract_int_to_abstract_float : Step AbstractInt AbstractFloat 5
  in_vector : {from to : ShaderType} {weight : ℕ} (n : ℕ) → Step from to weight → Step (Vec n from) (Vec n to) weight
  in_array : {from to : ShaderType} {weight : ℕ} (n : Option ℕ) → Step from to weight → Step (Array from n) (Array to n) weight

-- A path of steps, and the sum of their weights.
pub data Path : ShaderType → ShaderType → ℕ → Type 0 where
  stay : {here : ShaderType} → Path here here 0
  go : {from next to : ShaderType} {weight rest : ℕ} → Step from next weight → Path next to rest → Path from to (weight + rest)

-- A type converts to another where a path leads there.
abbrev pub Converts : ShaderType → ShaderType → Type 0
Converts from to = (sum : ℕ) × Path from to sum

-- The rank of a conversion is the least sum of weights along a path.
pub record IsRank (from to : ShaderType) (rank : ℕ) : Type 0 where
  pub path : Path from to rank
  pub least : (sum : ℕ) → Path from to sum → rank ≤ sum

-- The common type of a list: its member to which every member converts.
pub record IsCommonType (types : List ShaderType) (common : ShaderType) : Type 0 where
  pub member : Contains types common
  pub all_convert : All (λ member. Converts member common) types

abbrev pub HasNoCommonType : List ShaderType → Type 0
HasNoCommonType types = (common : ShaderType) → IsCommonType types common → ⊥

-- A member that is the common type of the list, if there is one.
pub record IsOnlyCandidate (types : List ShaderType) (candidate : ShaderType) : Type 0 where
  pub member : Contains types candidate
  pub only : (common : ShaderType) → IsCommonType types common → candidate ≡ common
