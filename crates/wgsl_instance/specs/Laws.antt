-- Laws of values.
use Rattle.std.specs.Prelude.{◌≡◌, Ok}
use Rattle.wgsl_shader_type.specs.declared.tree.ShaderType.{ShaderType}
use Rattle.wgsl_instance.specs.declared.tree.Instance.{Instance}
use Rattle.wgsl_instance.specs.Typed.{HasType, IsWellFormed}
use Rattle.wgsl_instance.specs.Zero.{zero_value}
use Rattle.wgsl_instance.specs.Converted.{converted}

-- The zero value of a type has the type.
abbrev pub ZeroHasType : Type 0
ZeroHasType = (t : ShaderType) (x : Instance) → zero_value t ≡ Ok x → HasType x t

-- A converted value has the type that it is converted to.
abbrev pub ConvertedHasType : Type 0
ConvertedHasType = (x y : Instance) (t : ShaderType) → IsWellFormed x → converted x t ≡ Ok y → HasType y t
