-- The law of constructors.
use Rattle.std.specs.Prelude.{◌≡◌, ◌≤◌, ⊤, List, Ok, All, IsTrue}
use Rattle.wgsl_shader_type.specs.declared.tree.ShaderType.{ShaderType}
use Rattle.wgsl_shader_type.specs.Class.{is_scalar}
use Rattle.wgsl_types.specs.declared.constructor.Constructor.{Constructor}
use Rattle.wgsl_types.specs.declared.constructor.Constructor.TheVariants as constructor
use Rattle.wgsl_types.specs.Constructor.{IsMadeBy}
use Rattle.wgsl_instance.specs.declared.tree.Instance.{Instance}
use Rattle.wgsl_instance.specs.Typed.{IsWellFormed, HasType}
use Rattle.wgsl_instance_operators.specs.Built.{types_of, built}

-- The constructors that have names: of scalar types, of vectors of 2 to 4 components, and of arrays.
abbrev pub IsNamed : Constructor → Type 0
IsNamed (constructor.Scalar t) = IsTrue (is_scalar t)
IsNamed (constructor.Vector n template) = (2 ≤ n) × (n ≤ 4)
IsNamed (constructor.Array template) = ⊤

-- What is built of well formed values has the type that the constructor makes.
abbrev pub BuiltHasType : Type 0
BuiltHasType = (by : Constructor) (args : List Instance) (t : ShaderType) (x : Instance) → IsNamed by → All IsWellFormed args
    → IsMadeBy by (types_of args) t → built t args ≡ Ok x → HasType x t
