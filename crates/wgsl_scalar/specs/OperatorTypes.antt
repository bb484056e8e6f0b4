-- The types of operators on scalars, and which scalar types convert. That they are those of the rules of all types, `laws` says
-- (WGSL, "Conversion Rank", "Overload Resolution").
use Rattle.std.specs.Prelude.{◌≡◌, ◌↔◌, IsTrue, MatchResult, Bool, true, false, Option, Some, None, Result, Ok, Err, if◌then◌else◌}
use Rattle.wgsl_words.specs.declared.operators.UnaryOperator.{UnaryOperator}
use Rattle.wgsl_words.specs.declared.operators.UnaryOperator.TheVariants.{LogicalNegation, Negation, BitwiseComplement, AddressOf, Indirection}
use Rattle.wgsl_words.specs.declared.operators.BinaryOperator.{BinaryOperator}
use Rattle.wgsl_words.specs.declared.enumerations.words.ShaderStage.{ShaderStage}
use Rattle.wgsl_words.specs.declared.enumerations.words.ShaderStage.TheVariants.{Const}
use Rattle.wgsl_type_operators.specs.Error.{Error}
use Rattle.wgsl_type_operators.specs.Error.TheVariants.{Unary, Binary}
use Rattle.wgsl_type_operators.specs.LiteralInstance.{LiteralInstance}
use Rattle.wgsl_type_operators.specs.Conversion.{Converts}
use Rattle.wgsl_type_operators.specs.Operator.{is_shift, is_comparison, IsBinaryResult, HasNoBinaryCandidate, IsUnaryResult, HasNoUnaryCandidate}
use Rattle.wgsl_scalar.specs.declared.scalar.ScalarType.{ScalarType}
use Rattle.wgsl_scalar.specs.declared.scalar.ScalarType.TheVariants.{Bool as Truth, Integer}
use Rattle.wgsl_scalar.specs.declared.scalar.IntegerType.TheVariants.{AbstractInt, I32, U32}
use Rattle.wgsl_scalar.specs.Scalars.{scalar_type, type_of}
use Rattle.wgsl_scalar.specs.Conversions.{converted, constructed}
use Rattle.wgsl_scalar.specs.Operators.{common, is_amount, takes, unary_value, binary_value}

-- whether a type converts to another
abbrev pub converts : ScalarType → ScalarType → Bool
converts Truth Truth = true
converts (Integer AbstractInt) (Integer t) = true
converts (Integer I32) (Integer I32) = true
converts (Integer U32) (Integer U32) = true
converts s t = false

-- ---- operators

-- a type, or an error
abbrev pub CheckedType : Type 0
CheckedType = Result ScalarType Error

abbrev pub type_or_error : Error → Option ScalarType → CheckedType
type_or_error e (Some t) = Ok t
type_or_error e None = Err e

-- which operators take an operand of a type
abbrev pub unary_takes : UnaryOperator → ScalarType → Bool
unary_takes LogicalNegation Truth = true
unary_takes LogicalNegation (Integer t) = false
unary_takes Negation Truth = false
unary_takes Negation (Integer AbstractInt) = true
unary_takes Negation (Integer I32) = true
unary_takes Negation (Integer U32) = false
unary_takes BitwiseComplement Truth = false
unary_takes BitwiseComplement (Integer t) = true
unary_takes AddressOf t = false
unary_takes Indirection t = false

abbrev pub type_in_front : UnaryOperator → ScalarType → Option ScalarType
type_in_front o t = if unary_takes o t then Some t else None

-- the type of an operator in front of an operand: the operand's
abbrev pub unary_type : UnaryOperator → ScalarType → CheckedType
unary_type o t = type_or_error (Unary o (scalar_type t)) (type_in_front o t)

abbrev pub given_by : Bool → ScalarType → ScalarType
given_by true t = Truth
given_by false t = t

-- of two operands of one type: Bool for a comparison, else that type
abbrev pub given : BinaryOperator → ScalarType → ScalarType
given o t = given_by (is_comparison o) t

abbrev pub type_at : BinaryOperator → Option ScalarType → Option ScalarType
type_at o None = None
type_at o (Some t) = if takes o t then Some (given o t) else None

-- of a shift: the left operand's, an integer
abbrev pub shift_type : ScalarType → ScalarType → Option ScalarType
shift_type (Integer t) u = if is_amount u then Some (Integer t) else None
shift_type Truth u = None

abbrev pub type_between : BinaryOperator → ScalarType → ScalarType → Option ScalarType
type_between o t u = if is_shift o then shift_type t u else type_at o (common t u)

-- the type of an operator between two operands
abbrev pub binary_type : BinaryOperator → ScalarType → ScalarType → CheckedType
binary_type o t u = type_or_error (Binary o (scalar_type t) (scalar_type u)) (type_between o t u)

-- ---- laws

abbrev pub ConversionsAreThoseOfTypes : Type 0
ConversionsAreThoseOfTypes = (s t : ScalarType) → IsTrue (converts s t) ↔ Converts (scalar_type s) (scalar_type t)

-- The type is the one that the rules give. Where they give none, the operand is refused.
abbrev pub UnaryTypesAreThoseOfTypes : Type 0
UnaryTypesAreThoseOfTypes = (o : UnaryOperator) (t : ScalarType) → MatchResult (unary_type o t)
    (λ result. IsUnaryResult o (scalar_type t) (scalar_type result))
    (λ error. HasNoUnaryCandidate o (scalar_type t) × (error ≡ Unary o (scalar_type t)))

abbrev pub BinaryTypesAreThoseOfTypes : Type 0
BinaryTypesAreThoseOfTypes = (o : BinaryOperator) (t u : ScalarType) → MatchResult (binary_type o t u)
    (λ result. IsBinaryResult o (scalar_type t) (scalar_type u) (scalar_type result))
    (λ error. HasNoBinaryCandidate o (scalar_type t) (scalar_type u) × (error ≡ Binary o (scalar_type t) (scalar_type u)))

-- What an operator, a conversion or a constructor gives has its type.
abbrev pub UnaryValuesHaveTheType : Type 0
UnaryValuesHaveTheType = (s : ShaderStage) (o : UnaryOperator) (x v : LiteralInstance) → unary_value s o x ≡ Ok v → unary_type o (type_of x) ≡ Ok (type_of v)

abbrev pub BinaryValuesHaveTheType : Type 0
BinaryValuesHaveTheType = (s : ShaderStage) (o : BinaryOperator) (x y v : LiteralInstance) → binary_value s o x y ≡ Ok v
    → binary_type o (type_of x) (type_of y) ≡ Ok (type_of v)

abbrev pub ConvertedValuesHaveTheType : Type 0
ConvertedValuesHaveTheType = (t : ScalarType) (x v : LiteralInstance) → converted t x ≡ Ok v → type_of v ≡ t

abbrev pub ConstructedValuesHaveTheType : Type 0
ConstructedValuesHaveTheType = (t : ScalarType) (x v : LiteralInstance) → constructed t x ≡ Ok v → type_of v ≡ t

-- A value at the const stage is the value at each stage.
abbrev pub ConstValuesHoldInFront : Type 0
ConstValuesHoldInFront = (s : ShaderStage) (o : UnaryOperator) (x v : LiteralInstance) → unary_value Const o x ≡ Ok v → unary_value s o x ≡ Ok v
