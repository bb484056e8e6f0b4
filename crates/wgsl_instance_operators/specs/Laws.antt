-- Laws of the operators on values.
use Rattle.std.specs.Prelude.{◌≡◌, Ok}
use Rattle.wgsl_words.specs.declared.operators.UnaryOperator.{UnaryOperator}
use Rattle.wgsl_words.specs.declared.operators.BinaryOperator.{BinaryOperator}
use Rattle.wgsl_words.specs.declared.enumerations.words.ShaderStage.{ShaderStage}
use Rattle.wgsl_shader_type.specs.declared.tree.ShaderType.{ShaderType}
use Rattle.wgsl_type_operators.specs.Operator.{IsBinaryResult, IsUnaryResult}
use Rattle.wgsl_instance.specs.declared.tree.Instance.{Instance}
use Rattle.wgsl_instance.specs.Typed.{type_of, HasType, IsWellFormed}
use Rattle.wgsl_instance_operators.specs.Operators.{combined, each_component}

-- A value of an operator has the type that the operator gives for its operands' types.
abbrev pub ValuesHaveTheirTypes : Type 0
ValuesHaveTheirTypes = (s : ShaderStage) (o : BinaryOperator) (x y z : Instance) (t : ShaderType) → IsWellFormed x → IsWellFormed y
    → IsBinaryResult o (type_of x) (type_of y) t → combined s o x y ≡ Ok z → HasType z t

-- The same of an operator in front of a value.
abbrev pub UnaryValuesHaveTheirTypes : Type 0
UnaryValuesHaveTheirTypes = (s : ShaderStage) (o : UnaryOperator) (x z : Instance) (t : ShaderType) → IsWellFormed x
    → IsUnaryResult o (type_of x) t → each_component s o x ≡ Ok z → HasType z t
