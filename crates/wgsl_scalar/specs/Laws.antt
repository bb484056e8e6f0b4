-- The operators on scalars, beside the types of operators.
use Rattle.std.specs.Prelude.{◌≡◌, Ok, Err}
use Rattle.wgsl_words.specs.declared.operators.BinaryOperator.{BinaryOperator}
use Rattle.wgsl_words.specs.declared.enumerations.words.ShaderStage.{ShaderStage}
use Rattle.wgsl_words.specs.declared.enumerations.words.ShaderStage.TheVariants.{Const}
use Rattle.wgsl_type_operators.specs.ShaderType.{ShaderType}
use Rattle.wgsl_type_operators.specs.Error.TheVariants.{Binary}
use Rattle.wgsl_type_operators.specs.LiteralInstance.{LiteralInstance}
use Rattle.wgsl_type_operators.specs.Operator.{IsBinaryResult, HasNoBinaryCandidate}
use Rattle.wgsl_scalar.specs.Scalars.{scalar_type, type_of}
use Rattle.wgsl_scalar.specs.Operators.{binary_value}

abbrev pub shader_type_of : LiteralInstance → ShaderType
shader_type_of v = scalar_type (type_of v)

-- A value of an operator has the type that the operator gives for its operands' types.
abbrev pub ValuesHaveTheirTypes : Type 0
ValuesHaveTheirTypes = (s : ShaderStage) (o : BinaryOperator) (x y v : LiteralInstance) → binary_value s o x y ≡ Ok v
    → IsBinaryResult o (shader_type_of x) (shader_type_of y) (shader_type_of v)

-- Where no candidate of the operator fits the operands' types, they are refused, with both types.
abbrev pub OtherOperandsAreRefused : Type 0
OtherOperandsAreRefused = (s : ShaderStage) (o : BinaryOperator) (x y : LiteralInstance) → HasNoBinaryCandidate o (shader_type_of x) (shader_type_of y)
    → binary_value s o x y ≡ Err (Binary o (shader_type_of x) (shader_type_of y))

-- A value at the const stage is the value at each stage.
abbrev pub ConstValuesHold : Type 0
ConstValuesHold = (s : ShaderStage) (o : BinaryOperator) (x y v : LiteralInstance) → binary_value Const o x y ≡ Ok v → binary_value s o x y ≡ Ok v
