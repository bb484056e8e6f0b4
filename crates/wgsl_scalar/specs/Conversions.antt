-- Conversions of scalars (WGSL, "Conversion Rank", "Value Constructor Built-in Functions").
use Rattle.std.specs.Prelude.{zero, suc, ℤ, pos, negsuc, Bool, true, false, Result, Ok, Err, if◌then◌else◌}
use Rattle.std.specs.Int.{cast_signed, cast_unsigned, w32}
use Rattle.wgsl_type_operators.specs.Error.{Error}
use Rattle.wgsl_type_operators.specs.Error.TheVariants.{ConvOverflow, Conversion}
use Rattle.wgsl_type_operators.specs.LiteralInstance.{LiteralInstance}
use Rattle.wgsl_type_operators.specs.LiteralInstance.TheVariants as literal
use Rattle.wgsl_scalar.specs.declared.scalar.ScalarType.{ScalarType}
use Rattle.wgsl_scalar.specs.declared.scalar.ScalarType.TheVariants.{Bool as Truth, Integer}
use Rattle.wgsl_scalar.specs.declared.scalar.IntegerType.{IntegerType}
use Rattle.wgsl_scalar.specs.declared.scalar.IntegerType.TheVariants.{AbstractInt, I32, U32}
use Rattle.wgsl_scalar.specs.Scalars.{scalar_type, integer_type, type_of, truth_number, fits, value_at}

-- a value, or an error
abbrev pub Checked : Type 0
Checked = Result LiteralInstance Error

abbrev pub then_value : Checked → (LiteralInstance → Checked) → Checked
then_value (Ok v) f = f v
then_value (Err e) f = Err e

-- an AbstractInt becomes an integer of another type where it is in the range
abbrev pub from_abstract : IntegerType → ℤ → Checked
from_abstract t z = if fits t z then Ok (value_at t z) else Err (ConvOverflow (literal.AbstractInt z) (integer_type t))

-- the implicit conversion to an integer type, where types convert
abbrev pub to_integer : IntegerType → LiteralInstance → Checked
to_integer t (literal.AbstractInt z) = from_abstract t z
to_integer I32 (literal.I32 z) = Ok (literal.I32 z)
to_integer U32 (literal.U32 n) = Ok (literal.U32 n)
to_integer t v = Err (Conversion (scalar_type (type_of v)) (integer_type t))

-- the implicit conversion to a type; where types don't convert, the error tells both
abbrev pub converted : ScalarType → LiteralInstance → Checked
converted Truth (literal.Bool b) = Ok (literal.Bool b)
converted (Integer t) v = to_integer t v
converted t v = Err (Conversion (scalar_type (type_of v)) (scalar_type t))

abbrev pub is_nonzero : ℤ → Bool
is_nonzero (pos zero) = false
is_nonzero (pos (suc n)) = true
is_nonzero (negsuc n) = true

abbrev pub to_bool : LiteralInstance → LiteralInstance
to_bool (literal.Bool b) = literal.Bool b
to_bool (literal.AbstractInt z) = literal.Bool (is_nonzero z)
to_bool (literal.I32 z) = literal.Bool (is_nonzero z)
to_bool (literal.U32 n) = literal.Bool (is_nonzero (pos n))

-- a Bool as an integer: 1 or 0
abbrev pub of_truth : IntegerType → Bool → LiteralInstance
of_truth t b = value_at t (truth_number b)

-- the constructor of a type at one scalar: a Bool becomes 1 or 0, and between i32 and u32 the bits stay
abbrev pub constructed : ScalarType → LiteralInstance → Checked
constructed Truth v = Ok (to_bool v)
constructed (Integer t) (literal.Bool b) = Ok (of_truth t b)
constructed (Integer t) (literal.AbstractInt z) = from_abstract t z
constructed (Integer AbstractInt) (literal.I32 z) = Ok (literal.AbstractInt z)
constructed (Integer AbstractInt) (literal.U32 n) = Ok (literal.AbstractInt (pos n))
constructed (Integer I32) (literal.I32 z) = Ok (literal.I32 z)
constructed (Integer I32) (literal.U32 n) = Ok (literal.I32 (cast_signed w32 n))
constructed (Integer U32) (literal.I32 z) = Ok (literal.U32 (cast_unsigned w32 z))
constructed (Integer U32) (literal.U32 n) = Ok (literal.U32 n)
