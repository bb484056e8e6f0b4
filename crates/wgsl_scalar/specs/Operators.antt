-- The operators on scalars at each stage (WGSL, "Arithmetic Expressions", "Comparison Expressions", "Logical Expressions", "Bit Expressions"). At exec, integers of 32 bits wrap. At const and override what doesn't fit is an error; for `+ - *` this is this project's profile, which is stricter than WGSL.
use Rattle.std.specs.Prelude.{ℕ, zero, suc, ◌^◌, ◌%◌, ℤ, pos, negsuc, neg_ℤ, ◌+ℤ◌, ◌-ℤ◌, ◌*ℤ◌, int_div, int_rem, int_lt, bit_and, bit_or, bit_xor, Bool, true, false, not, ◌&&◌, ◌||◌, nat_lt, Option, Some, None, Ok, Err, if◌then◌else◌}
use Rattle.std.specs.Int.{Width, int_bit_and, int_bit_or, int_bit_xor, int_bit_not, int_shr, bit_not, w32, w64}
use Rattle.std.specs.Ordering.{int_eq}
use Rattle.std.specs.Bool.{beq}
use Rattle.wgsl_words.specs.declared.operators.UnaryOperator.{UnaryOperator}
use Rattle.wgsl_words.specs.declared.operators.UnaryOperator.TheVariants.{LogicalNegation, Negation, BitwiseComplement, AddressOf, Indirection}
use Rattle.wgsl_words.specs.declared.operators.BinaryOperator.{BinaryOperator}
use Rattle.wgsl_words.specs.declared.operators.BinaryOperator.TheVariants.{ShortCircuitOr, ShortCircuitAnd, Addition, Subtraction, Multiplication, Division, Remainder, Equality, Inequality, LessThan, LessThanEqual, GreaterThan, GreaterThanEqual, BitwiseOr, BitwiseAnd, BitwiseXor, ShiftLeft, ShiftRight}
use Rattle.wgsl_words.specs.declared.enumerations.words.ShaderStage.{ShaderStage}
use Rattle.wgsl_words.specs.declared.enumerations.words.ShaderStage.TheVariants.{Const, Override, Exec}
use Rattle.wgsl_type_operators.specs.Error.{Error}
use Rattle.wgsl_type_operators.specs.Error.TheVariants.{AddOverflow, SubOverflow, MulOverflow, DivByZero, RemZeroDiv, ShlOverflow, ShrOverflow, Unary, Binary}
use Rattle.wgsl_type_operators.specs.LiteralInstance.{LiteralInstance}
use Rattle.wgsl_type_operators.specs.LiteralInstance.TheVariants as literal
use Rattle.wgsl_scalar.specs.declared.scalar.ScalarType.{ScalarType}
use Rattle.wgsl_scalar.specs.declared.scalar.IntegerType.{IntegerType}
use Rattle.wgsl_scalar.specs.declared.scalar.IntegerType.TheVariants.{AbstractInt, I32, U32}
use Rattle.wgsl_type_operators.specs.Operator.{is_shift}
use Rattle.wgsl_scalar.specs.declared.scalar.ScalarType.TheVariants.{Bool as Truth, Integer}
use Rattle.wgsl_scalar.specs.Scalars.{scalar_type, integer_type, type_of, number, width, fits, value_at, wrapped}
use Rattle.wgsl_scalar.specs.Conversions.{Checked, then_value, converted, to_integer}

-- ---- results that don't fit

-- only when the shader runs, and only with 32 bits, a result may be another than the exact one
abbrev pub is_lenient : ShaderStage → IntegerType → Bool
is_lenient Exec I32 = true
is_lenient Exec U32 = true
is_lenient Exec AbstractInt = false
is_lenient Const t = false
is_lenient Override t = false

-- this value when the shader runs, else none
abbrev pub at_exec : ShaderStage → IntegerType → Option LiteralInstance → Option LiteralInstance
at_exec s t v = if is_lenient s t then v else None

-- an exact result: the value where it fits, else it wraps when the shader runs
abbrev pub exact : ShaderStage → IntegerType → ℤ → Option LiteralInstance
exact s t z = if fits t z then Some (value_at t z) else at_exec s t (Some (wrapped t z))

-- the value, or this error where there is none
abbrev pub or_error : Option LiteralInstance → Error → Checked
or_error (Some v) e = Ok v
or_error None e = Err e

-- ---- unary operators

-- The negative. Of the least I32 it is that number itself, at every stage.
abbrev pub negated : ShaderStage → LiteralInstance → Checked
negated s (literal.AbstractInt z) = or_error (exact s AbstractInt (neg_ℤ z)) SubOverflow
negated s (literal.I32 z) = or_error (exact Exec I32 (neg_ℤ z)) SubOverflow
negated s v = Err (Unary Negation (scalar_type (type_of v)))

-- each bit is the other one
abbrev pub complement : LiteralInstance → Checked
complement (literal.AbstractInt z) = Ok (literal.AbstractInt (int_bit_not w64 z))
complement (literal.I32 z) = Ok (literal.I32 (int_bit_not w32 z))
complement (literal.U32 n) = Ok (literal.U32 (bit_not w32 n))
complement (literal.Bool b) = Err (Unary BitwiseComplement (scalar_type (type_of (literal.Bool b))))

abbrev pub logical_not : LiteralInstance → Checked
logical_not (literal.Bool b) = Ok (literal.Bool (not b))
logical_not v = Err (Unary LogicalNegation (scalar_type (type_of v)))

abbrev pub unary_value : ShaderStage → UnaryOperator → LiteralInstance → Checked
unary_value s Negation v = negated s v
unary_value s BitwiseComplement v = complement v
unary_value s LogicalNegation v = logical_not v
unary_value s AddressOf v = Err (Unary AddressOf (scalar_type (type_of v)))
unary_value s Indirection v = Err (Unary Indirection (scalar_type (type_of v)))

-- ---- binary operators on two values of one type

-- the divisor isn't 0, and the quotient, toward zero, is in the range
abbrev pub divides : IntegerType → ℤ → ℤ → Bool
divides t a (pos zero) = false
divides t a (pos (suc b)) = fits t (int_div a (pos (suc b)))
divides t a (negsuc b) = fits t (int_div a (negsuc b))

-- By 0, and for the least number by -1, x / y is x and x % y is 0 when the shader runs.
abbrev pub divided : ShaderStage → IntegerType → ℤ → ℤ → Option LiteralInstance
divided s t a b = if divides t a b then exact s t (int_div a b) else at_exec s t (exact s t a)

abbrev pub remainder : ShaderStage → IntegerType → ℤ → ℤ → Option LiteralInstance
remainder s t a b = if divides t a b then exact s t (int_rem a b) else at_exec s t (exact s t (pos 0))

abbrev pub truth : Bool → Checked
truth b = Ok (literal.Bool b)

-- arithmetic and comparisons, on two numbers of one type
abbrev pub of_numbers : ShaderStage → BinaryOperator → IntegerType → ℤ → ℤ → Checked
of_numbers s Addition t a b = or_error (exact s t (a +ℤ b)) AddOverflow
of_numbers s Subtraction t a b = or_error (exact s t (a -ℤ b)) SubOverflow
of_numbers s Multiplication t a b = or_error (exact s t (a *ℤ b)) MulOverflow
of_numbers s Division t a b = or_error (divided s t a b) DivByZero
of_numbers s Remainder t a b = or_error (remainder s t a b) RemZeroDiv
of_numbers s Equality t a b = truth (int_eq a b)
of_numbers s Inequality t a b = truth (not (int_eq a b))
of_numbers s LessThan t a b = truth (int_lt a b)
of_numbers s LessThanEqual t a b = truth (not (int_lt b a))
of_numbers s GreaterThan t a b = truth (int_lt b a)
of_numbers s GreaterThanEqual t a b = truth (not (int_lt a b))
of_numbers s o t a b = Err (Binary o (integer_type t) (integer_type t))

-- `|`, `&` and `^` go bit by bit
abbrev pub is_bitwise : BinaryOperator → Bool
is_bitwise BitwiseOr = true
is_bitwise BitwiseAnd = true
is_bitwise BitwiseXor = true
is_bitwise o = false

abbrev pub signed_bits : BinaryOperator → Width → ℤ → ℤ → ℤ
signed_bits BitwiseOr w a b = int_bit_or w a b
signed_bits BitwiseAnd w a b = int_bit_and w a b
signed_bits o w a b = int_bit_xor w a b

abbrev pub unsigned_bits : BinaryOperator → ℕ → ℕ → ℕ
unsigned_bits BitwiseOr a b = bit_or a b
unsigned_bits BitwiseAnd a b = bit_and a b
unsigned_bits o a b = bit_xor a b

abbrev pub of_truths : BinaryOperator → Bool → Bool → Checked
of_truths Equality a b = truth (beq a b)
of_truths Inequality a b = truth (not (beq a b))
of_truths BitwiseOr a b = truth (a || b)
of_truths BitwiseAnd a b = truth (a && b)
of_truths ShortCircuitOr a b = truth (a || b)
of_truths ShortCircuitAnd a b = truth (a && b)
of_truths o a b = Err (Binary o (scalar_type Truth) (scalar_type Truth))

abbrev pub of_alike : ShaderStage → BinaryOperator → LiteralInstance → LiteralInstance → Checked
of_alike s o (literal.Bool a) (literal.Bool b) = of_truths o a b
of_alike s o (literal.AbstractInt a) (literal.AbstractInt b) = if is_bitwise o then Ok (literal.AbstractInt (signed_bits o w64 a b)) else of_numbers s o AbstractInt a b
of_alike s o (literal.I32 a) (literal.I32 b) = if is_bitwise o then Ok (literal.I32 (signed_bits o w32 a b)) else of_numbers s o I32 a b
of_alike s o (literal.U32 a) (literal.U32 b) = if is_bitwise o then Ok (literal.U32 (unsigned_bits o a b)) else of_numbers s o U32 (pos a) (pos b)
of_alike s o a b = Err (Binary o (scalar_type (type_of a)) (scalar_type (type_of b)))

-- ---- shifts

abbrev pub shift_error : BinaryOperator → ℕ → LiteralInstance → Error
shift_error ShiftLeft n v = ShlOverflow n v
shift_error o n v = ShrOverflow n v

-- By how many bits a value is shifted: fewer than it has; when the shader runs, an amount is taken modulo 32.
abbrev pub shift_amount : ShaderStage → IntegerType → ℕ → Option ℕ
shift_amount s t n = if nat_lt n (width t) || is_lenient s t then Some (n % width t) else None

-- to the right, rounded down, so that the sign stays
abbrev pub right_quotient : LiteralInstance → ℕ → ℤ
right_quotient v k = int_shr (number v) k

-- to the left, exactly
abbrev pub left_product : LiteralInstance → ℕ → ℤ
left_product v k = number v *ℤ pos (2 ^ k)

-- to the left, the product has to fit, unless the shader runs
abbrev pub shifted_by : ShaderStage → BinaryOperator → IntegerType → LiteralInstance → ℕ → ℕ → Checked
shifted_by s ShiftLeft t v n k = or_error (exact s t (left_product v k)) (ShlOverflow n v)
shifted_by s o t v n k = or_error (exact s t (right_quotient v k)) (ShrOverflow n v)

abbrev pub shifted_or : ShaderStage → BinaryOperator → IntegerType → LiteralInstance → ℕ → Option ℕ → Checked
shifted_or s o t v n (Some k) = shifted_by s o t v n k
shifted_or s o t v n None = Err (shift_error o n v)

abbrev pub shifted : ShaderStage → BinaryOperator → IntegerType → LiteralInstance → ℕ → Checked
shifted s o t v n = shifted_or s o t v n (shift_amount s t n)

abbrev pub shifted_value : ShaderStage → BinaryOperator → IntegerType → LiteralInstance → LiteralInstance → Checked
shifted_value s o t v (literal.U32 n) = shifted s o t v n
shifted_value s o t v a = Err (Binary o (integer_type t) (scalar_type (type_of a)))

-- ---- binary operators

-- the type of two operands to which the other converts
abbrev pub common : ScalarType → ScalarType → Option ScalarType
common Truth Truth = Some Truth
common (Integer AbstractInt) (Integer t) = Some (Integer t)
common (Integer I32) (Integer AbstractInt) = Some (Integer I32)
common (Integer U32) (Integer AbstractInt) = Some (Integer U32)
common (Integer I32) (Integer I32) = Some (Integer I32)
common (Integer U32) (Integer U32) = Some (Integer U32)
common s t = None

-- which operators, shifts apart, take two values of a type; that they are those of the types' rules, `laws` says
abbrev pub takes_truths : BinaryOperator → Bool
takes_truths ShortCircuitOr = true
takes_truths ShortCircuitAnd = true
takes_truths Equality = true
takes_truths Inequality = true
takes_truths BitwiseOr = true
takes_truths BitwiseAnd = true
takes_truths o = false

abbrev pub takes_integers : BinaryOperator → Bool
takes_integers ShortCircuitOr = false
takes_integers ShortCircuitAnd = false
takes_integers ShiftLeft = false
takes_integers ShiftRight = false
takes_integers o = true

abbrev pub takes : BinaryOperator → ScalarType → Bool
takes o Truth = takes_truths o
takes o (Integer t) = takes_integers o

-- whether it converts to u32
abbrev pub is_amount : ScalarType → Bool
is_amount (Integer AbstractInt) = true
is_amount (Integer U32) = true
is_amount t = false

abbrev pub no_candidate : BinaryOperator → LiteralInstance → LiteralInstance → Checked
no_candidate o x y = Err (Binary o (scalar_type (type_of x)) (scalar_type (type_of y)))

abbrev pub at_common : ShaderStage → BinaryOperator → LiteralInstance → LiteralInstance → Option ScalarType → Checked
at_common s o x y None = no_candidate o x y
at_common s o x y (Some t) =
    if takes o t then then_value (converted t x) (λ a. then_value (converted t y) (λ b. of_alike s o a b)) else no_candidate o x y

abbrev pub at_left : ShaderStage → BinaryOperator → LiteralInstance → LiteralInstance → ScalarType → Checked
at_left s o x y (Integer t) = if is_amount (type_of y) then then_value (to_integer U32 y) (λ a. shifted_value s o t x a) else no_candidate o x y
at_left s o x y Truth = no_candidate o x y

-- A shift takes an integer and an amount that converts to u32. Every other operator takes two operands of one type, to which
-- the other operand is converted, the left one first.
abbrev pub binary_value : ShaderStage → BinaryOperator → LiteralInstance → LiteralInstance → Checked
binary_value s o x y = if is_shift o then at_left s o x y (type_of x) else at_common s o x y (common (type_of x) (type_of y))
