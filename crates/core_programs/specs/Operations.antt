-- Operators, conversions and constructors on values, with the faults of their places.
use Rattle.std.specs.Prelude.{List, [], ◌∷◌, Option, Some, None, Result, Ok, Err, Bool, true, false, if◌then◌else◌}
use Rattle.wgsl_words.specs.declared.operators.UnaryOperator.{UnaryOperator}
use Rattle.wgsl_words.specs.declared.operators.UnaryOperator.TheVariants.{AddressOf, Indirection}
use Rattle.wgsl_words.specs.declared.operators.BinaryOperator.{BinaryOperator}
use Rattle.wgsl_words.specs.declared.operators.BinaryOperator.TheVariants.{ShortCircuitOr, ShortCircuitAnd}
use Rattle.core_syntax.specs.declared.expression.LiteralExpression.{LiteralExpression}
use Rattle.core_syntax.specs.declared.expression.LiteralExpression.TheVariants as L
use Rattle.wgsl_words.specs.declared.enumerations.words.ShaderStage.{ShaderStage}
use Rattle.wgsl_shader_type.specs.declared.error.Error.{Error}
use Rattle.wgsl_shader_type.specs.declared.error.Error.TheVariants.{Binary, ParamType}
use Rattle.wgsl_shader_type.specs.declared.literal.LiteralInstance.TheVariants as scalar
use Rattle.wgsl_shader_type.specs.declared.tree.ShaderType.{ShaderType}
use Rattle.wgsl_shader_type.specs.Class.{loaded_type}
use Rattle.wgsl_shader_type.specs.Rank.{converts}
use Rattle.wgsl_type_operators.specs.ResultOf.{unary_result, unary_fault, binary_result}
use Rattle.wgsl_instance.specs.declared.tree.Instance.{Instance, out-Instance}
use Rattle.wgsl_instance.specs.declared.tree.Instance.TheVariants as v
use Rattle.wgsl_instance.specs.declared.tree.Instance.TheOpen.{Instance-F}
use Rattle.wgsl_instance.specs.Zero.{Made, zero_value}
use Rattle.wgsl_instance.specs.Converted.{converted}
use Rattle.wgsl_instance.specs.Typed.{type_of}
use Rattle.wgsl_instance.specs.Parts.{address_of, indirection}
use Rattle.wgsl_instance_operators.specs.Operators.{combined, each_component}
use Rattle.wgsl_instance_operators.specs.Built.{built_scalar}
use Rattle.core_computations.specs.Machine.{pure, fail}
use Rattle.core_programs.specs.Faults.{OfName, Signature}
use Rattle.core_programs.specs.Computing.{M, computed, used}
use Rattle.core_programs.specs.Names.{Name}

-- what a literal stands for: its suffix says its type (WGSL, "Numeric Literals")
abbrev pub literal_value : LiteralExpression → Instance
literal_value (L.AbstractInt z) = v.Literal (scalar.AbstractInt z)
literal_value (L.I32 z) = v.Literal (scalar.I32 z)
literal_value (L.U32 n) = v.Literal (scalar.U32 n)

-- a type, or this error where there is none
abbrev pub type_or : Error → Option ShaderType → Result ShaderType Error
type_or e (Some t) = Ok t
type_or e None = Err e

-- what is computed, if the operands' types have a result
abbrev pub if_typed : Result ShaderType Error → Made → Made
if_typed (Ok t) made = made
if_typed (Err e) made = Err e

-- ---- an operator in front of an operand

abbrev pub unary_type : UnaryOperator → ShaderType → Result ShaderType Error
unary_type o t = type_or (unary_fault o t) (unary_result o t)

-- `&` and `*` make pointers and references; any other operator takes a value of a type that it is defined for
abbrev pub unary_value : ShaderStage → UnaryOperator → Instance → Made
unary_value s AddressOf x = address_of x
unary_value s Indirection x = indirection x
unary_value s o x = if_typed (unary_type o (type_of x)) (each_component s o x)

-- `&` takes the reference itself
abbrev pub operand : UnaryOperator → Instance → M Instance
operand AddressOf x = pure x
operand o x = used x

abbrev pub operand_type : UnaryOperator → ShaderType → ShaderType
operand_type AddressOf t = t
operand_type o t = loaded_type t

-- ---- an operator between two operands

abbrev pub binary_type : BinaryOperator → ShaderType → ShaderType → Result ShaderType Error
binary_type o t u = type_or (Binary o t u) (binary_result o t u)

abbrev pub binary_value : ShaderStage → BinaryOperator → Instance → Instance → Made
binary_value s o x y = if_typed (binary_type o (type_of x) (type_of y)) (combined s o x y)

-- whether the left operand of `&&` or `||` is the result already (WGSL, "Logical Expressions")
abbrev pub decides_layer : {A : Type 0} → BinaryOperator → Instance-F A → Bool
decides_layer ShortCircuitAnd (Instance-F.Literal (scalar.Bool false)) = true
decides_layer ShortCircuitOr (Instance-F.Literal (scalar.Bool true)) = true
decides_layer o x = false

abbrev pub decides : BinaryOperator → Instance → Bool
decides o x = decides_layer o (out-Instance x)

-- ---- conversions

-- an argument as a parameter of this type takes it (WGSL, "Function Calls"); the error tells the parameter's type first
abbrev pub argument : ShaderType → Instance → Made
argument t x = if converts (type_of x) t then converted x t else Err (ParamType t (type_of x))

-- ---- constructors

-- of one argument, or of none for zero (WGSL, "Zero Value Built-in Functions")
abbrev pub construct : Name → ShaderType → List Instance → M Instance
construct f t [] = computed (zero_value t)
construct f t (x ∷ []) = computed (built_scalar t x)
construct f t (x ∷ y ∷ xs) = fail (OfName Signature f)

abbrev pub construct_type : Name → ShaderType → List ShaderType → M ShaderType
construct_type f t [] = pure t
construct_type f t (s ∷ []) = pure t
construct_type f t (s ∷ u ∷ ts) = fail (OfName Signature f)
