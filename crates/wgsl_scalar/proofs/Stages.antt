-- A value at the const stage is the value at each stage.
use Rattle.std.proofs.Common.{◌≡◌, ℕ, Bool, true, false, true≢false, refl, ap, subst, ℤ, pos}
use Rattle.std.specs.Prelude.{⊤, ◌||◌, nat_lt, Option, Some, None, Ok, Err, if◌then◌else◌}
use Rattle.wgsl_words.specs.declared.operators.BinaryOperator.{BinaryOperator}
use Rattle.wgsl_words.specs.declared.operators.BinaryOperator.TheVariants.{Addition, Subtraction, Multiplication, Division, Remainder, ShiftLeft}
use Rattle.wgsl_words.specs.declared.enumerations.words.ShaderStage.{ShaderStage}
use Rattle.wgsl_words.specs.declared.enumerations.words.ShaderStage.TheVariants.{Const}
use Rattle.wgsl_type_operators.specs.Error.{Error}
use Rattle.wgsl_type_operators.specs.LiteralInstance.{LiteralInstance}
use Rattle.wgsl_type_operators.specs.LiteralInstance.TheVariants as literal
use Rattle.wgsl_type_operators.specs.Operator.{is_shift}
use Rattle.wgsl_scalar.specs.declared.scalar.ScalarType.{ScalarType}
use Rattle.wgsl_scalar.specs.declared.scalar.ScalarType.TheVariants.{Bool as Truth, Integer}
use Rattle.wgsl_scalar.specs.declared.scalar.IntegerType.{IntegerType}
use Rattle.wgsl_scalar.specs.declared.scalar.IntegerType.TheVariants.{AbstractInt, I32, U32}
use Rattle.wgsl_scalar.specs.Scalars.{type_of, fits, width}
use Rattle.wgsl_scalar.specs.Conversions.{Checked, then_value, to_integer, converted}
use Rattle.wgsl_scalar.specs.Operators.{is_lenient, at_exec, exact, or_error, divides, of_numbers, is_bitwise, of_alike, shifted_or, shifted_value, common, is_amount, takes, no_candidate, at_common, at_left, binary_value}

-- this value, too
abbrev pub Holds : Checked → Checked → Type 0
Holds (Ok v) r = r ≡ Ok v
Holds (Err e) r = ⊤

abbrev SomeHolds : Option LiteralInstance → Option LiteralInstance → Type 0
SomeHolds (Some v) r = r ≡ Some v
SomeHolds None r = ⊤

pub same_holds : (r : Checked) → Holds r r
same_holds (Ok v) = refl
same_holds (Err e) = tt

pub or_error_holds : (v w : Option LiteralInstance) (e : Error) → SomeHolds v w → Holds (or_error v e) (or_error w e)
or_error_holds (Some v) w e h = ap (λ o. or_error o e) h
or_error_holds None w e h = tt

exact_holds_by : (b : Bool) (s : ShaderStage) (t : IntegerType) (v w : LiteralInstance)
    → SomeHolds (if b then Some v else at_exec Const t (Some w)) (if b then Some v else at_exec s t (Some w))
exact_holds_by true s t v w = refl
exact_holds_by false s t v w = tt

pub exact_holds : (s : ShaderStage) (t : IntegerType) (z : ℤ) → SomeHolds (exact Const t z) (exact s t z)
exact_holds s t z = exact_holds_by (fits t z) s t _ _

divided_holds : (b : Bool) (s : ShaderStage) (t : IntegerType) (q r : ℤ)
    → SomeHolds (if b then exact Const t q else at_exec Const t (exact Const t r)) (if b then exact s t q else at_exec s t (exact s t r))
divided_holds true s t q r = exact_holds s t q
divided_holds false s t q r = tt

numbers_hold : (s : ShaderStage) (o : BinaryOperator) (t : IntegerType) (a b : ℤ) → Holds (of_numbers Const o t a b) (of_numbers s o t a b)
numbers_hold s Addition t a b = or_error_holds _ _ _ (exact_holds s t _)
numbers_hold s Subtraction t a b = or_error_holds _ _ _ (exact_holds s t _)
numbers_hold s Multiplication t a b = or_error_holds _ _ _ (exact_holds s t _)
numbers_hold s Division t a b = or_error_holds _ _ _ (divided_holds (divides t a b) s t _ _)
numbers_hold s Remainder t a b = or_error_holds _ _ _ (divided_holds (divides t a b) s t _ _)
numbers_hold s o t a b = same_holds (of_numbers s o t a b)

chosen_holds : (b : Bool) (p q r : Checked) → Holds q r → Holds (if b then p else q) (if b then p else r)
chosen_holds true p q r h = same_holds p
chosen_holds false p q r h = h

alike_hold : (s : ShaderStage) (o : BinaryOperator) (a b : LiteralInstance) → Holds (of_alike Const o a b) (of_alike s o a b)
alike_hold s o (literal.AbstractInt a) (literal.AbstractInt b) = chosen_holds (is_bitwise o) _ _ _ (numbers_hold s o AbstractInt a b)
alike_hold s o (literal.I32 a) (literal.I32 b) = chosen_holds (is_bitwise o) _ _ _ (numbers_hold s o I32 a b)
alike_hold s o (literal.U32 a) (literal.U32 b) = chosen_holds (is_bitwise o) _ _ _ (numbers_hold s o U32 (pos a) (pos b))
alike_hold s o a b = same_holds (of_alike s o a b)

then_holds : (r : Checked) (f g : LiteralInstance → Checked) → ((a : LiteralInstance) → Holds (f a) (g a)) → Holds (then_value r f) (then_value r g)
then_holds (Ok a) f g h = h a
then_holds (Err e) f g h = tt

if_holds : (b : Bool) (p q e : Checked) → Holds p q → Holds (if b then p else e) (if b then q else e)
if_holds true p q e h = h
if_holds false p q e h = same_holds e

common_holds : (s : ShaderStage) (o : BinaryOperator) (x y : LiteralInstance) (c : Option ScalarType) → Holds (at_common Const o x y c) (at_common s o x y c)
common_holds s o x y None = tt
common_holds s o x y (Some t) =
    if_holds (takes o t) _ _ (no_candidate o x y) (then_holds (converted t x) _ _ (λ a. then_holds (converted t y) _ _ (λ b. alike_hold s o a b)))

amount_holds : (b c : Bool) (s : ShaderStage) (o : BinaryOperator) (t : IntegerType) (v : LiteralInstance) (n k : ℕ) → c ≡ false
    → Holds (shifted_or Const o t v n (if b || c then Some k else None)) (shifted_or s o t v n (if b || is_lenient s t then Some k else None))
amount_holds true c s ShiftLeft t v n k h = or_error_holds _ _ _ (exact_holds s t _)
amount_holds true c s o t v n k h = or_error_holds _ _ _ (exact_holds s t _)
amount_holds false true s o t v n k h = absurd (true≢false h)
amount_holds false false s o t v n k h = tt

shifted_hold : (s : ShaderStage) (o : BinaryOperator) (t : IntegerType) (v a : LiteralInstance) → Holds (shifted_value Const o t v a) (shifted_value s o t v a)
shifted_hold s o t v (literal.U32 n) = amount_holds (nat_lt n (width t)) (is_lenient Const t) s o t v n _ refl
shifted_hold s o t v a = same_holds (shifted_value s o t v a)

left_holds : (s : ShaderStage) (o : BinaryOperator) (x y : LiteralInstance) (t : ScalarType) → Holds (at_left Const o x y t) (at_left s o x y t)
left_holds s o x y (Integer t) = if_holds (is_amount (type_of y)) _ _ (no_candidate o x y) (then_holds (to_integer U32 y) _ _ (λ a. shifted_hold s o t x a))
left_holds s o x y Truth = tt

holds_by : (b : Bool) (p q r u : Checked) → Holds p r → Holds q u → Holds (if b then p else q) (if b then r else u)
holds_by true p q r u h k = h
holds_by false p q r u h k = k

binary_holds : (s : ShaderStage) (o : BinaryOperator) (x y : LiteralInstance) → Holds (binary_value Const o x y) (binary_value s o x y)
binary_holds s o x y = holds_by (is_shift o) _ _ _ _ (left_holds s o x y (type_of x)) (common_holds s o x y (common (type_of x) (type_of y)))

pub const_value_holds : (s : ShaderStage) (o : BinaryOperator) (x y v : LiteralInstance) → binary_value Const o x y ≡ Ok v → binary_value s o x y ≡ Ok v
const_value_holds s o x y v h = subst (λ r. Holds r (binary_value s o x y)) h (binary_holds s o x y)
