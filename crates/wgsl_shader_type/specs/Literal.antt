-- How a literal is written (WGSL, "Literals"), and the zero values of scalars (WGSL, "Zero Value Built-in Function").
use Rattle.std.specs.Prelude.{ℕ, pos, List, ◌++◌, true, false, Option, Some, None, codes}
use Rattle.std.specs.Fmt.{decimal, signed_decimal}
use Rattle.wgsl_shader_type.specs.declared.literal.LiteralInstance.{LiteralInstance}
use Rattle.wgsl_shader_type.specs.declared.literal.LiteralInstance.TheVariants as literal
use Rattle.wgsl_shader_type.specs.declared.error.Error.{Error}
use Rattle.wgsl_shader_type.specs.declared.error.Error.TheVariants as error
use Rattle.wgsl_shader_type.specs.declared.tree.ShaderType.{ShaderType, out-ShaderType}
use Rattle.wgsl_shader_type.specs.declared.tree.ShaderType.TheOpen.{ShaderType-F}

abbrev pub literal_text : LiteralInstance → List ℕ
literal_text (literal.Bool true) = codes "true"
literal_text (literal.Bool false) = codes "false"
literal_text (literal.AbstractInt n) = signed_decimal n
literal_text (literal.I32 n) = signed_decimal n ++ codes "i"
literal_text (literal.U32 n) = decimal n ++ codes "u"

abbrev pub zero_layer : {A : Type 0} → ShaderType-F A → Option LiteralInstance
zero_layer ShaderType-F.Bool = Some (literal.Bool false)
zero_layer ShaderType-F.AbstractInt = Some (literal.AbstractInt (pos 0))
zero_layer ShaderType-F.I32 = Some (literal.I32 (pos 0))
zero_layer ShaderType-F.U32 = Some (literal.U32 0)
zero_layer _ = None

-- The zero value of a scalar type that has values here.
abbrev pub zero_of : ShaderType → Option LiteralInstance
zero_of t = zero_layer (out-ShaderType t)

abbrev pub zero_fault_layer : {A : Type 0} → ShaderType → ShaderType-F A → Error
zero_fault_layer t ShaderType-F.AbstractFloat = error.Todo (codes "AbstractFloat")
zero_fault_layer t ShaderType-F.F32 = error.Todo (codes "f32")
zero_fault_layer t ShaderType-F.F16 = error.Todo (codes "f16")
zero_fault_layer t _ = error.NotScalar t

-- What is refused: a float, which isn't supported, or what is no scalar.
abbrev pub zero_fault : ShaderType → Error
zero_fault t = zero_fault_layer t (out-ShaderType t)
