-- Whether two types are equal, as a test.
use Rattle.std.specs.Prelude.{◌==◌, Bool, true, false, ◌&&◌}
use Rattle.std.specs.Option.{option_eq}
use Rattle.std.specs.Str.{bytes_eq}
use Rattle.std.specs.Cmp.Lexicographic.{pointwise}
use Rattle.wgsl_words.specs.contracts.enumerations.address.AddressSpacePartialEq.TheImpl as space
use Rattle.wgsl_words.specs.contracts.enumerations.address.AccessModePartialEq.TheImpl as access
use Rattle.wgsl_shader_type.specs.declared.tree.StructTypeOf.{StructTypeOf}
use Rattle.wgsl_shader_type.specs.declared.tree.StructMemberTypeOf.{StructMemberTypeOf}
use Rattle.wgsl_shader_type.specs.declared.tree.ShaderType.{ShaderType, out-ShaderType, fold-ShaderType}
use Rattle.wgsl_shader_type.specs.declared.tree.ShaderType.TheOpen.{ShaderType-F}

abbrev pub same_member : {A B : Type 0} → (A → B → Bool) → StructMemberTypeOf A → StructMemberTypeOf B → Bool
same_member E x y = bytes_eq x.name y.name && E x.ty y.ty && option_eq ◌==◌ x.size y.size && option_eq ◌==◌ x.align y.align

abbrev pub same_struct : {A B : Type 0} → (A → B → Bool) → StructTypeOf A → StructTypeOf B → Bool
same_struct E x y = bytes_eq x.name y.name && pointwise (same_member E) x.members y.members

abbrev pub same_layer : {A B : Type 0} → (A → B → Bool) → ShaderType-F A → ShaderType-F B → Bool
same_layer E ShaderType-F.Bool ShaderType-F.Bool = true
same_layer E ShaderType-F.AbstractInt ShaderType-F.AbstractInt = true
same_layer E ShaderType-F.AbstractFloat ShaderType-F.AbstractFloat = true
same_layer E ShaderType-F.I32 ShaderType-F.I32 = true
same_layer E ShaderType-F.U32 ShaderType-F.U32 = true
same_layer E ShaderType-F.F32 ShaderType-F.F32 = true
same_layer E ShaderType-F.F16 ShaderType-F.F16 = true
same_layer E (ShaderType-F.Struct x) (ShaderType-F.Struct y) = same_struct E x y
same_layer E (ShaderType-F.Array x n) (ShaderType-F.Array y m) = option_eq ◌==◌ n m && E x y
same_layer E (ShaderType-F.Vec n x) (ShaderType-F.Vec m y) = (n == m) && E x y
same_layer E (ShaderType-F.Ptr s x a) (ShaderType-F.Ptr t y b) = space.eq-value.it s t && access.eq-value.it a b && E x y
same_layer E (ShaderType-F.Ref s x a) (ShaderType-F.Ref t y b) = space.eq-value.it s t && access.eq-value.it a b && E x y
same_layer E _ _ = false

-- Types are equal where their variants, and what these hold, are.
abbrev pub same : ShaderType → ShaderType → Bool
same = fold-ShaderType (ShaderType → Bool) (λ x t. same_layer (λ test y. test y) x (out-ShaderType t))
