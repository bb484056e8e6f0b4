-- What operators take and give (WGSL, "Arithmetic Expressions", "Comparison Expressions", "Logical Expressions", "Bit Expressions", "Overload Resolution").
use Rattle.std.specs.Prelude.{◌≡◌, ℕ, ◌+◌, ◌≤◌, Bool, true, false, ◌&&◌, ◌||◌, not, IsTrue}
use Rattle.wgsl_shader_type.specs.AddressSpace.{AddressSpace}
use Rattle.wgsl_shader_type.specs.AddressSpace.TheVariants.{Handle}
use Rattle.wgsl_shader_type.specs.AccessMode.{AccessMode}
use Rattle.wgsl_words.specs.declared.operators.UnaryOperator.{UnaryOperator}
use Rattle.wgsl_words.specs.declared.operators.UnaryOperator.TheVariants.{LogicalNegation, Negation, BitwiseComplement, AddressOf, Indirection}
use Rattle.wgsl_words.specs.declared.operators.BinaryOperator.{BinaryOperator}
use Rattle.wgsl_words.specs.declared.operators.BinaryOperator.TheVariants.{ShortCircuitOr, ShortCircuitAnd, Addition, Subtraction, Multiplication, Division, Remainder, Equality, Inequality, LessThan, LessThanEqual, GreaterThan, GreaterThanEqual, BitwiseOr, BitwiseAnd, BitwiseXor, ShiftLeft, ShiftRight}
use Rattle.wgsl_shader_type.specs.declared.tree.ShaderType.{ShaderType, out-ShaderType}
use Rattle.wgsl_shader_type.specs.declared.tree.ShaderType.TheOpen.{ShaderType-F}
use Rattle.wgsl_shader_type.specs.declared.tree.ShaderType.TheVariants as type
use Rattle.wgsl_shader_type.specs.Class.{is_scalar, is_numeric, is_integer, is_bool}
use Rattle.wgsl_shader_type.specs.Conversion.{IsRank}

abbrev pub unsigned_layer : {A : Type 0} → ShaderType-F A → Bool
unsigned_layer ShaderType-F.U32 = true
unsigned_layer _ = false

abbrev pub is_unsigned : ShaderType → Bool
is_unsigned t = unsigned_layer (out-ShaderType t)

-- ---- binary operators

abbrev pub is_arithmetic : BinaryOperator → Bool
is_arithmetic Addition = true
is_arithmetic Subtraction = true
is_arithmetic Multiplication = true
is_arithmetic Division = true
is_arithmetic Remainder = true
is_arithmetic _ = false

abbrev pub is_comparison : BinaryOperator → Bool
is_comparison Equality = true
is_comparison Inequality = true
is_comparison LessThan = true
is_comparison LessThanEqual = true
is_comparison GreaterThan = true
is_comparison GreaterThanEqual = true
is_comparison _ = false

abbrev pub is_shift : BinaryOperator → Bool
is_shift ShiftLeft = true
is_shift ShiftRight = true
is_shift _ = false

abbrev pub is_logical : BinaryOperator → Bool
is_logical ShortCircuitOr = true
is_logical ShortCircuitAnd = true
is_logical _ = false

-- Which scalar type the two operands may both have: numbers for `+ - * / %` and `< <= > >=`, any scalar for `==` and `!=`, integers or Bool for `&` and `|`, integers for `^`, Bool for `&&` and `||`. A shift is apart.
abbrev pub takes : BinaryOperator → ShaderType → Bool
takes ShortCircuitOr t = is_bool t
takes ShortCircuitAnd t = is_bool t
takes Addition t = is_numeric t
takes Subtraction t = is_numeric t
takes Multiplication t = is_numeric t
takes Division t = is_numeric t
takes Remainder t = is_numeric t
takes Equality t = is_scalar t
takes Inequality t = is_scalar t
takes LessThan t = is_numeric t
takes LessThanEqual t = is_numeric t
takes GreaterThan t = is_numeric t
takes GreaterThanEqual t = is_numeric t
takes BitwiseOr t = is_bool t || is_integer t
takes BitwiseAnd t = is_bool t || is_integer t
takes BitwiseXor t = is_integer t
takes ShiftLeft t = false
takes ShiftRight t = false

-- What it then gives: Bool for a comparison, else the operands' type.
abbrev pub given_type : Bool → ShaderType → ShaderType
given_type true t = type.Bool
given_type false t = t

abbrev pub gives : BinaryOperator → ShaderType → ShaderType
gives operator t = given_type (is_comparison operator) t

-- The signatures of an operator on scalars: the left and the right operand, and the result.
pub data ScalarSignature : BinaryOperator → ShaderType → ShaderType → ShaderType → Type 0 where
  alike : (operator : BinaryOperator) (t : ShaderType) → IsTrue (takes operator t) → ScalarSignature operator t t (gives operator t)
  shift : (operator : BinaryOperator) (t : ShaderType) → IsTrue (is_shift operator) → IsTrue (is_integer t) → ScalarSignature operator t type.U32 t

-- The signatures of an operator: on scalars; componentwise on vectors of one length, but for `&&` and `||`; and for `+ - * / %` on a vector and a scalar, in either order.
pub data Signature : BinaryOperator → ShaderType → ShaderType → ShaderType → Type 0 where
  scalars : {operator : BinaryOperator} {left right result : ShaderType} → ScalarSignature operator left right result → Signature operator left right result
  vectors : {operator : BinaryOperator} {left right result : ShaderType} (n : ℕ) → is_logical operator ≡ false
      → ScalarSignature operator left right result → Signature operator (type.Vec n left) (type.Vec n right) (type.Vec n result)
  vector_and_scalar : {operator : BinaryOperator} {left right result : ShaderType} (n : ℕ) → IsTrue (is_arithmetic operator)
      → ScalarSignature operator left right result → Signature operator (type.Vec n left) right (type.Vec n result)
  scalar_and_vector : {operator : BinaryOperator} {left right result : ShaderType} (n : ℕ) → IsTrue (is_arithmetic operator)
      → ScalarSignature operator left right result → Signature operator left (type.Vec n right) (type.Vec n result)

-- A candidate for two operands is a signature to whose sides they convert, at the sum of the two ranks.
pub record IsCandidate (signature : ShaderType → ShaderType → ShaderType → Type 0) (left right a b result : ShaderType) (sum : ℕ) : Type 0 where
  pub here : signature a b result
  pub left_rank : ℕ
  pub right_rank : ℕ
  pub left_converts : IsRank left a left_rank
  pub right_converts : IsRank right b right_rank
  pub sums : sum ≡ left_rank + right_rank

-- The result is that of the one candidate of the least sum.
pub record IsResult (signature : ShaderType → ShaderType → ShaderType → Type 0) (left right result : ShaderType) : Type 0 where
  pub first : ShaderType
  pub second : ShaderType
  pub sum : ℕ
  pub candidate : IsCandidate signature left right first second result sum
  pub least : (a b c : ShaderType) (other : ℕ) → IsCandidate signature left right a b c other → sum ≤ other
  pub alone : (a b c : ShaderType) (other : ℕ) → IsCandidate signature left right a b c other → other ≡ sum → (a ≡ first) × (b ≡ second) × (c ≡ result)

abbrev pub HasNoCandidate : (ShaderType → ShaderType → ShaderType → Type 0) → ShaderType → ShaderType → Type 0
HasNoCandidate signature left right = (a b c : ShaderType) (sum : ℕ) → IsCandidate signature left right a b c sum → ⊥

abbrev pub IsBinaryResult : BinaryOperator → ShaderType → ShaderType → ShaderType → Type 0
IsBinaryResult operator = IsResult (Signature operator)

abbrev pub HasNoBinaryCandidate : BinaryOperator → ShaderType → ShaderType → Type 0
HasNoBinaryCandidate operator = HasNoCandidate (Signature operator)

-- ---- unary operators

-- Which scalar type the operand may have: numbers but U32 for `-`, Bool for `!`, integers for `~`.
abbrev pub unary_takes : UnaryOperator → ShaderType → Bool
unary_takes LogicalNegation t = is_bool t
unary_takes Negation t = is_numeric t && not (is_unsigned t)
unary_takes BitwiseComplement t = is_integer t
unary_takes AddressOf t = false
unary_takes Indirection t = false

-- The signatures of a unary operator: on scalars, componentwise on vectors, and between references and pointers; to the handle space there are no pointers.
pub data UnarySignature : UnaryOperator → ShaderType → ShaderType → Type 0 where
  scalar : (operator : UnaryOperator) (t : ShaderType) → IsTrue (unary_takes operator t) → UnarySignature operator t t
  vector : (operator : UnaryOperator) (n : ℕ) (t : ShaderType) → IsTrue (unary_takes operator t) → UnarySignature operator (type.Vec n t) (type.Vec n t)
  address : (space : AddressSpace) (t : ShaderType) (access : AccessMode) → (space ≡ Handle → ⊥) → UnarySignature AddressOf (type.Ref space t access) (type.Ptr space t access)
  indirection : (space : AddressSpace) (t : ShaderType) (access : AccessMode) → UnarySignature Indirection (type.Ptr space t access) (type.Ref space t access)

pub record IsUnaryCandidate (operator : UnaryOperator) (operand a result : ShaderType) (rank : ℕ) : Type 0 where
  pub here : UnarySignature operator a result
  pub converts : IsRank operand a rank

-- The result is that of the one candidate of the least rank.
pub record IsUnaryResult (operator : UnaryOperator) (operand result : ShaderType) : Type 0 where
  pub first : ShaderType
  pub rank : ℕ
  pub candidate : IsUnaryCandidate operator operand first result rank
  pub least : (a b : ShaderType) (other : ℕ) → IsUnaryCandidate operator operand a b other → rank ≤ other
  pub alone : (a b : ShaderType) (other : ℕ) → IsUnaryCandidate operator operand a b other → other ≡ rank → (a ≡ first) × (b ≡ result)

abbrev pub HasNoUnaryCandidate : UnaryOperator → ShaderType → Type 0
HasNoUnaryCandidate operator operand = (a b : ShaderType) (rank : ℕ) → IsUnaryCandidate operator operand a b rank → ⊥
