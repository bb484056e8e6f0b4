-- The rank of a conversion, variant by variant. That it is the least sum along a path, `rank_is_least` of the proofs shows.
use Rattle.std.specs.Prelude.{ℕ, ◌==◌, Bool, Option, Some, None, is_some, if◌then◌else◌}
use Rattle.std.specs.Option.{option_eq}
use Rattle.wgsl_shader_type.specs.declared.tree.ShaderType.{ShaderType, out-ShaderType, para-ShaderType}
use Rattle.wgsl_shader_type.specs.declared.tree.ShaderType.TheOpen.{ShaderType-F}
use Rattle.wgsl_shader_type.specs.Alike.{same, same_layer}

abbrev pub rank_layer : {A B : Type 0} → (A → B → Bool) → (A → B → Option ℕ) → ShaderType-F A → ShaderType-F B → Option ℕ
rank_layer E R ShaderType-F.AbstractFloat ShaderType-F.F32 = Some 1
rank_layer E R ShaderType-F.AbstractFloat ShaderType-F.F16 = Some 2
rank_layer E R ShaderType-F.AbstractInt ShaderType-F.I32 = Some 3
rank_layer E R ShaderType-F.AbstractInt ShaderType-F.U32 = Some 4
rank_layer E R ShaderType-F.AbstractInt ShaderType-F.AbstractFloat = Some 5
rank_layer E R ShaderType-F.AbstractInt ShaderType-F.F32 = Some 6
rank_layer E R ShaderType-F.AbstractInt ShaderType-F.F16 = Some 7
rank_layer E R (ShaderType-F.Array x n) (ShaderType-F.Array y m) = if option_eq ◌==◌ n m then R x y else None
rank_layer E R (ShaderType-F.Vec n x) (ShaderType-F.Vec m y) = if n == m then R x y else None
rank_layer E R x y = if same_layer E x y then Some 0 else None

abbrev pub rank_of : ShaderType → ShaderType → Option ℕ
rank_of = para-ShaderType (ShaderType → Option ℕ) (λ x t. rank_layer (λ pair y. same pair.0 y) (λ pair y. pair.1 y) x (out-ShaderType t))

-- whether there is a conversion
abbrev pub converts : ShaderType → ShaderType → Bool
converts a b = is_some (rank_of a b)

-- the one of two types to which the other converts
abbrev pub common_of : ShaderType → ShaderType → Option ShaderType
common_of a b = if converts a b then Some b else (if converts b a then Some a else None)
