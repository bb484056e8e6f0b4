-- Laws of conversions, common types, concrete and loaded types.
use Rattle.std.specs.Prelude.{◌≡◌, ◌⊎◌, ℕ, ◌+◌, List, [], ◌∷◌, Option, Some, None, IsPermutation}
use Rattle.wgsl_shader_type.specs.declared.tree.ShaderType.{ShaderType}
use Rattle.wgsl_shader_type.specs.Conversion.{Converts, IsRank, IsCommonType}
use Rattle.wgsl_shader_type.specs.Rank.{common_of}
use Rattle.wgsl_shader_type.specs.Class.{concrete_type, loaded_type}
use Rattle.wgsl_types.specs.Convert.{both_converted}

-- Conversion is a partial order.
abbrev pub IsReflexive : Type 0
IsReflexive = (t : ShaderType) → Converts t t

abbrev pub IsTransitive : Type 0
IsTransitive = (a b c : ShaderType) → Converts a b → Converts b c → Converts a c

abbrev pub IsAntisymmetric : Type 0
IsAntisymmetric = (a b : ShaderType) → Converts a b → Converts b a → a ≡ b

-- Ranks add along conversions.
abbrev pub RanksAdd : Type 0
RanksAdd = (a b c : ShaderType) (m n : ℕ) → IsRank a b m → IsRank b c n → IsRank a c (m + n)

-- A list has one common type at most.
abbrev pub CommonTypeIsOne : Type 0
CommonTypeIsOne = (types : List ShaderType) (a b : ShaderType) → IsCommonType types a → IsCommonType types b → a ≡ b

-- The common type of two types is that of the two in the other order.
abbrev pub CommonTypeIsSymmetric : Type 0
CommonTypeIsSymmetric = (a b common : ShaderType) → IsCommonType (a ∷ b ∷ []) common → IsCommonType (b ∷ a ∷ []) common

-- So is what is answered of two types.
abbrev pub CommonOfIsSymmetric : Type 0
CommonOfIsSymmetric = (a b : ShaderType) → common_of a b ≡ common_of b a

-- The common type of a list is that of its members in any other order.
abbrev pub CommonTypeIgnoresOrder : Type 0
CommonTypeIgnoresOrder = (types others : List ShaderType) (common : ShaderType) → IsPermutation types others → IsCommonType types common → IsCommonType others common

-- The concrete type of a concrete type, and the loaded type of a loaded type, is itself.
abbrev pub ConcreteTwiceIsOnce : Type 0
ConcreteTwiceIsOnce = (t : ShaderType) → concrete_type (concrete_type t) ≡ concrete_type t

abbrev pub LoadedTwiceIsOnce : Type 0
LoadedTwiceIsOnce = (t : ShaderType) → loaded_type (loaded_type t) ≡ loaded_type t

-- ---- things that convert: values, or types themselves

-- `convert` gives two things at the common type of their types.
abbrev pub BothAtCommonType : {A : Type 0} → (A → ShaderType) → (A → ShaderType → Option A) → Type 0
BothAtCommonType {A} type_of converted = (a b x y : A) → both_converted converted converted a b (common_of (type_of a) (type_of b)) ≡ Some (x, y)
    → (t : ShaderType) × IsCommonType (type_of a ∷ type_of b ∷ []) t × (type_of x ≡ t) × (type_of y ≡ t)

-- Where it gives nothing, the types have no common type, or it can't hold one of the two.
abbrev pub BothUnlessUnfit : {A : Type 0} → (A → ShaderType) → (A → ShaderType → Option A) → (A → ShaderType → Type 0) → Type 0
BothUnlessUnfit {A} type_of converted unfit = (a b : A) (t : ShaderType) → both_converted converted converted a b (common_of (type_of a) (type_of b)) ≡ None
    → IsCommonType (type_of a ∷ type_of b ∷ []) t → unfit a t ⊎ unfit b t
