-- Scalars: their types, ranges and numbers (WGSL, "Boolean Type", "Integer Types", "AbstractInt").
use Rattle.std.specs.Prelude.{ℕ, ◌^◌, ℤ, pos, negsuc, unsigned_abs, Bool, true, false, nat_lt}
use Rattle.std.specs.Int.{int_wrap, int_rem_euclid, w32}
use Rattle.wgsl_type_operators.specs.ShaderType.{ShaderType}
use Rattle.wgsl_type_operators.specs.ShaderType.TheVariants as type
use Rattle.wgsl_type_operators.specs.LiteralInstance.{LiteralInstance}
use Rattle.wgsl_type_operators.specs.LiteralInstance.TheVariants as literal
use Rattle.wgsl_scalar.specs.declared.scalar.ScalarType.{ScalarType}
use Rattle.wgsl_scalar.specs.declared.scalar.ScalarType.TheVariants.{Bool as Truth, Integer}
use Rattle.wgsl_scalar.specs.declared.scalar.IntegerType.{IntegerType}
use Rattle.wgsl_scalar.specs.declared.scalar.IntegerType.TheVariants.{AbstractInt, I32, U32}

abbrev pub integer_type : IntegerType → ShaderType
integer_type AbstractInt = type.AbstractInt
integer_type I32 = type.I32
integer_type U32 = type.U32

abbrev pub scalar_type : ScalarType → ShaderType
scalar_type Truth = type.Bool
scalar_type (Integer t) = integer_type t

abbrev pub type_of : LiteralInstance → ScalarType
type_of (literal.Bool b) = Truth
type_of (literal.AbstractInt z) = Integer AbstractInt
type_of (literal.I32 z) = Integer I32
type_of (literal.U32 n) = Integer U32

-- true is 1, false is 0
abbrev pub truth_number : Bool → ℤ
truth_number true = pos 1
truth_number false = pos 0

-- the number, without its type
abbrev pub number : LiteralInstance → ℤ
number (literal.Bool b) = truth_number b
number (literal.AbstractInt z) = z
number (literal.I32 z) = z
number (literal.U32 n) = pos n

-- how many bits an integer has
abbrev pub width : IntegerType → ℕ
width AbstractInt = 64
width I32 = 32
width U32 = 32

-- from -2^h to 2^h - 1
abbrev pub fits_signed : ℕ → ℤ → Bool
fits_signed h (pos n) = nat_lt n (2 ^ h)
fits_signed h (negsuc n) = nat_lt n (2 ^ h)

-- from 0 to 2^h - 1
abbrev pub fits_unsigned : ℕ → ℤ → Bool
fits_unsigned h (pos n) = nat_lt n (2 ^ h)
fits_unsigned h (negsuc n) = false

-- in the range of the type
abbrev pub fits : IntegerType → ℤ → Bool
fits AbstractInt z = fits_signed 63 z
fits I32 z = fits_signed 31 z
fits U32 z = fits_unsigned 32 z

-- the value of a type with this number, which is in its range
abbrev pub value_at : IntegerType → ℤ → LiteralInstance
value_at AbstractInt z = literal.AbstractInt z
value_at I32 z = literal.I32 z
value_at U32 z = literal.U32 (unsigned_abs z)

-- the value of a type of 32 bits that equals the number modulo 2^32
abbrev pub wrapped : IntegerType → ℤ → LiteralInstance
wrapped AbstractInt z = literal.AbstractInt z
wrapped I32 z = literal.I32 (int_wrap w32 z)
wrapped U32 z = literal.U32 (unsigned_abs (int_rem_euclid z (pos (2 ^ 32))))
