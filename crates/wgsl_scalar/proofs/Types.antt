-- A value has the type that its operator gives.
use Rattle.std.proofs.Common.{◌≡◌, ℕ, Bool, true, false, refl, sym, ap, ◌∙◌, subst, ℤ, pos}
use Rattle.std.specs.Prelude.{⊤, ◌&&◌, is_some, option_and_then, Option, Some, None, Ok, Err, if◌then◌else◌}
use Rattle.std.specs.Option.{option_map}
use Rattle.wgsl_words.specs.declared.operators.BinaryOperator.{BinaryOperator}
use Rattle.wgsl_words.specs.declared.operators.BinaryOperator.TheVariants.{ShortCircuitOr, ShortCircuitAnd, Addition, Subtraction, Multiplication, Division, Remainder, Equality, Inequality, LessThan, LessThanEqual, GreaterThan, GreaterThanEqual, BitwiseOr, BitwiseAnd, BitwiseXor, ShiftLeft}
use Rattle.wgsl_words.specs.declared.enumerations.words.ShaderStage.{ShaderStage}
use Rattle.wgsl_type_operators.specs.ShaderType.{ShaderType}
use Rattle.wgsl_type_operators.specs.ShaderType as tree
use Rattle.wgsl_type_operators.specs.ShaderType.TheVariants as type
use Rattle.wgsl_type_operators.specs.Error.{Error}
use Rattle.wgsl_type_operators.specs.LiteralInstance.{LiteralInstance}
use Rattle.wgsl_type_operators.specs.LiteralInstance.TheVariants as literal
use Rattle.wgsl_type_operators.specs.Operator.{takes as takes_type, gives, given_type, is_shift, is_comparison, IsBinaryResult, HasNoBinaryCandidate}
use Rattle.wgsl_type_operators.specs.ResultOf.{if_taken, component, binary_result}
use Rattle.wgsl_type_operators.specs.Class.{is_integer}
use Rattle.wgsl_type_operators.specs.Alike.{same}
use Rattle.wgsl_type_operators.specs.Rank.{rank_of, rank_layer, converts, common_of}
use Rattle.wgsl_type_operators.proofs.Ranks.{rank_out}
use Rattle.wgsl_type_operators.proofs.Candidates.{result_found}
use Rattle.wgsl_scalar.specs.declared.scalar.ScalarType.{ScalarType}
use Rattle.wgsl_scalar.specs.declared.scalar.ScalarType.TheVariants.{Bool as Truth, Integer}
use Rattle.wgsl_scalar.specs.declared.scalar.IntegerType.{IntegerType}
use Rattle.wgsl_scalar.specs.declared.scalar.IntegerType.TheVariants.{AbstractInt, I32, U32}
use Rattle.wgsl_scalar.specs.Scalars.{scalar_type, integer_type, type_of, fits, value_at, wrapped}
use Rattle.wgsl_scalar.specs.Conversions.{Checked, then_value, to_integer, converted}
use Rattle.wgsl_scalar.specs.Operators.{is_lenient, at_exec, exact, or_error, divides, of_numbers, is_bitwise, of_truths, of_alike, shift_amount, shifted_or, shifted_value, common, is_amount, takes_truths, takes_integers, takes, no_candidate, at_common, at_left, binary_value}
use Rattle.wgsl_scalar.specs.OperatorTypes.{given_by, given, type_at, shift_type, type_between}
use Rattle.wgsl_scalar.specs.Laws.{shader_type_of}

-- ---- it is the operators' type

pub takes_truth : (o : BinaryOperator) → takes_type o type.Bool ≡ takes_truths o
unfolding tree.out-ShaderType denote.Hole.Carrier.out
takes_truth ShortCircuitOr = refl
takes_truth o = refl

takes_integer : (o : BinaryOperator) (t : IntegerType) → takes_type o (integer_type t) ≡ takes_integers o
unfolding tree.out-ShaderType denote.Hole.Carrier.out
takes_integer ShortCircuitOr AbstractInt = refl
takes_integer ShortCircuitOr I32 = refl
takes_integer ShortCircuitOr U32 = refl
takes_integer o AbstractInt = refl
takes_integer o I32 = refl
takes_integer o U32 = refl

takes_same : (o : BinaryOperator) (t : ScalarType) → takes_type o (scalar_type t) ≡ takes o t
takes_same o Truth = takes_truth o
takes_same o (Integer t) = takes_integer o t

given_same : (b : Bool) (t : ScalarType) → given_type b (scalar_type t) ≡ scalar_type (given_by b t)
given_same true t = refl
given_same false t = refl

-- what one test chooses
chosen : (b : Bool) (p q : Option ShaderType) (r s : Option ScalarType) → p ≡ option_map scalar_type r → q ≡ option_map scalar_type s
    → (if b then p else q) ≡ option_map scalar_type (if b then r else s)
chosen true p q r s h k = h
chosen false p q r s h k = k

taken : (o : BinaryOperator) (t : ScalarType) → if_taken o (scalar_type t) ≡ option_map scalar_type (type_at o (Some t))
taken o t =
    ap (λ b. if b then Some (gives o (scalar_type t)) else None) (takes_same o t)
    ∙ chosen (takes o t) _ _ _ _ (ap Some (given_same (is_comparison o) t)) refl

-- the common type of two types, by the two ranks
abbrev common_by : Option ℕ → Option ℕ → ShaderType → ShaderType → Option ShaderType
common_by p q a b = if is_some p then Some b else (if is_some q then Some a else None)

common_ranked : (a b : ShaderType)
    → common_of a b ≡ common_by (rank_layer same rank_of (tree.out-ShaderType a) (tree.out-ShaderType b)) (rank_layer same rank_of (tree.out-ShaderType b) (tree.out-ShaderType a)) a b
common_ranked a b = ap (λ p. common_by p (rank_of b a) a b) (rank_out a b) ∙ ap (λ q. common_by (rank_layer same rank_of (tree.out-ShaderType a) (tree.out-ShaderType b)) q a b) (rank_out b a)

common_same : (t u : ScalarType) → common_of (scalar_type t) (scalar_type u) ≡ option_map scalar_type (common t u)
unfolding tree.out-ShaderType denote.Hole.Carrier.out
common_same Truth Truth = common_ranked (scalar_type Truth) (scalar_type Truth)
common_same Truth (Integer AbstractInt) = common_ranked (scalar_type Truth) (scalar_type (Integer AbstractInt))
common_same Truth (Integer I32) = common_ranked (scalar_type Truth) (scalar_type (Integer I32))
common_same Truth (Integer U32) = common_ranked (scalar_type Truth) (scalar_type (Integer U32))
common_same (Integer AbstractInt) Truth = common_ranked (scalar_type (Integer AbstractInt)) (scalar_type Truth)
common_same (Integer AbstractInt) (Integer AbstractInt) = common_ranked (scalar_type (Integer AbstractInt)) (scalar_type (Integer AbstractInt))
common_same (Integer AbstractInt) (Integer I32) = common_ranked (scalar_type (Integer AbstractInt)) (scalar_type (Integer I32))
common_same (Integer AbstractInt) (Integer U32) = common_ranked (scalar_type (Integer AbstractInt)) (scalar_type (Integer U32))
common_same (Integer I32) Truth = common_ranked (scalar_type (Integer I32)) (scalar_type Truth)
common_same (Integer I32) (Integer AbstractInt) = common_ranked (scalar_type (Integer I32)) (scalar_type (Integer AbstractInt))
common_same (Integer I32) (Integer I32) = common_ranked (scalar_type (Integer I32)) (scalar_type (Integer I32))
common_same (Integer I32) (Integer U32) = common_ranked (scalar_type (Integer I32)) (scalar_type (Integer U32))
common_same (Integer U32) Truth = common_ranked (scalar_type (Integer U32)) (scalar_type Truth)
common_same (Integer U32) (Integer AbstractInt) = common_ranked (scalar_type (Integer U32)) (scalar_type (Integer AbstractInt))
common_same (Integer U32) (Integer I32) = common_ranked (scalar_type (Integer U32)) (scalar_type (Integer I32))
common_same (Integer U32) (Integer U32) = common_ranked (scalar_type (Integer U32)) (scalar_type (Integer U32))

amount_same : (u : ScalarType) → converts (scalar_type u) type.U32 ≡ is_amount u
unfolding tree.out-ShaderType denote.Hole.Carrier.out
amount_same Truth = ap is_some (rank_out (scalar_type Truth) type.U32)
amount_same (Integer AbstractInt) = ap is_some (rank_out (scalar_type (Integer AbstractInt)) type.U32)
amount_same (Integer I32) = ap is_some (rank_out (scalar_type (Integer I32)) type.U32)
amount_same (Integer U32) = ap is_some (rank_out (scalar_type (Integer U32)) type.U32)

shift_same : (t u : ScalarType) → (if is_integer (scalar_type t) && converts (scalar_type u) type.U32 then Some (scalar_type t) else None) ≡ option_map scalar_type (shift_type t u)
unfolding tree.out-ShaderType denote.Hole.Carrier.out
shift_same Truth u = refl
shift_same (Integer AbstractInt) u = ap (λ b. if b then Some (scalar_type (Integer AbstractInt)) else None) (amount_same u) ∙ chosen (is_amount u) _ _ _ _ refl refl
shift_same (Integer I32) u = ap (λ b. if b then Some (scalar_type (Integer I32)) else None) (amount_same u) ∙ chosen (is_amount u) _ _ _ _ refl refl
shift_same (Integer U32) u = ap (λ b. if b then Some (scalar_type (Integer U32)) else None) (amount_same u) ∙ chosen (is_amount u) _ _ _ _ refl refl

by_common : (o : BinaryOperator) (c : Option ScalarType) → option_and_then (if_taken o) (option_map scalar_type c) ≡ option_map scalar_type (type_at o c)
by_common o None = refl
by_common o (Some t) = taken o t

of_component : (o : BinaryOperator) (t u : ScalarType) → binary_result o (scalar_type t) (scalar_type u) ≡ component o (scalar_type t) (scalar_type u)
unfolding tree.out-ShaderType denote.Hole.Carrier.out
of_component o Truth Truth = refl
of_component o Truth (Integer AbstractInt) = refl
of_component o Truth (Integer I32) = refl
of_component o Truth (Integer U32) = refl
of_component o (Integer AbstractInt) Truth = refl
of_component o (Integer AbstractInt) (Integer AbstractInt) = refl
of_component o (Integer AbstractInt) (Integer I32) = refl
of_component o (Integer AbstractInt) (Integer U32) = refl
of_component o (Integer I32) Truth = refl
of_component o (Integer I32) (Integer AbstractInt) = refl
of_component o (Integer I32) (Integer I32) = refl
of_component o (Integer I32) (Integer U32) = refl
of_component o (Integer U32) Truth = refl
of_component o (Integer U32) (Integer AbstractInt) = refl
of_component o (Integer U32) (Integer I32) = refl
of_component o (Integer U32) (Integer U32) = refl

pub result_is : (o : BinaryOperator) (t u : ScalarType) → binary_result o (scalar_type t) (scalar_type u) ≡ option_map scalar_type (type_between o t u)
result_is o t u =
    of_component o t u ∙ chosen (is_shift o) _ _ (shift_type t u) (type_at o (common t u)) (shift_same t u) (ap (option_and_then (if_taken o)) (common_same t u) ∙ by_common o (common t u))

-- ---- values have it

abbrev pub HasType : ScalarType → Checked → Type 0
HasType t (Ok v) = type_of v ≡ t
HasType t (Err e) = ⊤

abbrev SomeHas : IntegerType → Option LiteralInstance → Type 0
SomeHas t (Some v) = type_of v ≡ Integer t
SomeHas t None = ⊤

pub value_has : (t : IntegerType) (z : ℤ) → type_of (value_at t z) ≡ Integer t
value_has AbstractInt z = refl
value_has I32 z = refl
value_has U32 z = refl

wrapped_has : (t : IntegerType) (z : ℤ) → type_of (wrapped t z) ≡ Integer t
wrapped_has AbstractInt z = refl
wrapped_has I32 z = refl
wrapped_has U32 z = refl

either_has : (b : Bool) (t : IntegerType) (v w : Option LiteralInstance) → SomeHas t v → SomeHas t w → SomeHas t (if b then v else w)
either_has true t v w h k = h
either_has false t v w h k = k

exact_has : (s : ShaderStage) (t : IntegerType) (z : ℤ) → SomeHas t (exact s t z)
exact_has s t z = either_has (fits t z) t _ _ (value_has t z) (either_has (is_lenient s t) t _ _ (wrapped_has t z) tt)

or_error_has : (t : IntegerType) (v : Option LiteralInstance) (e : Error) → SomeHas t v → HasType (Integer t) (or_error v e)
or_error_has t (Some v) e h = h
or_error_has t None e h = tt

pub exactly_has : (s : ShaderStage) (t : IntegerType) (z : ℤ) (e : Error) → HasType (Integer t) (or_error (exact s t z) e)
exactly_has s t z e = or_error_has t (exact s t z) e (exact_has s t z)

by_divisor : (s : ShaderStage) (b : Bool) (t : IntegerType) (q r : ℤ) (e : Error) → HasType (Integer t) (or_error (if b then exact s t q else at_exec s t (exact s t r)) e)
by_divisor s b t q r e = or_error_has t _ e (either_has b t _ _ (exact_has s t q) (either_has (is_lenient s t) t _ _ (exact_has s t r) tt))

numbers_have : (s : ShaderStage) (o : BinaryOperator) (t : IntegerType) (a b : ℤ) → HasType (given o (Integer t)) (of_numbers s o t a b)
numbers_have s Addition t a b = exactly_has s t _ _
numbers_have s Subtraction t a b = exactly_has s t _ _
numbers_have s Multiplication t a b = exactly_has s t _ _
numbers_have s Division t a b = by_divisor s (divides t a b) t _ _ _
numbers_have s Remainder t a b = by_divisor s (divides t a b) t _ _ _
numbers_have s Equality t a b = refl
numbers_have s Inequality t a b = refl
numbers_have s LessThan t a b = refl
numbers_have s LessThanEqual t a b = refl
numbers_have s GreaterThan t a b = refl
numbers_have s GreaterThanEqual t a b = refl
numbers_have s o t a b = tt

truths_have : (o : BinaryOperator) (a b : Bool) → HasType (given o Truth) (of_truths o a b)
truths_have Equality a b = refl
truths_have Inequality a b = refl
truths_have BitwiseOr a b = refl
truths_have BitwiseAnd a b = refl
truths_have ShortCircuitOr a b = refl
truths_have ShortCircuitAnd a b = refl
truths_have o a b = tt

bits_have : (o : BinaryOperator) (t : IntegerType) (v : LiteralInstance) (r : Checked) → type_of v ≡ Integer t → HasType (given o (Integer t)) r
    → HasType (given o (Integer t)) (if is_bitwise o then Ok v else r)
bits_have BitwiseOr t v r h k = h
bits_have BitwiseAnd t v r h k = h
bits_have BitwiseXor t v r h k = h
bits_have o t v r h k = k

alike_have : (s : ShaderStage) (o : BinaryOperator) (a b : LiteralInstance) → HasType (given o (type_of a)) (of_alike s o a b)
alike_have s o (literal.Bool a) (literal.Bool b) = truths_have o a b
alike_have s o (literal.AbstractInt a) (literal.AbstractInt b) = bits_have o AbstractInt _ _ refl (numbers_have s o AbstractInt a b)
alike_have s o (literal.I32 a) (literal.I32 b) = bits_have o I32 _ _ refl (numbers_have s o I32 a b)
alike_have s o (literal.U32 a) (literal.U32 b) = bits_have o U32 _ _ refl (numbers_have s o U32 (pos a) (pos b))
alike_have s o a b = tt

pub abstract_has : (b : Bool) (t : IntegerType) (v : LiteralInstance) (e : Error) → type_of v ≡ Integer t → HasType (Integer t) (if b then Ok v else Err e)
abstract_has true t v e h = h
abstract_has false t v e h = tt

integer_has : (t : IntegerType) (v : LiteralInstance) → HasType (Integer t) (to_integer t v)
integer_has t (literal.AbstractInt z) = abstract_has (fits t z) t _ _ (value_has t z)
integer_has I32 (literal.I32 z) = refl
integer_has U32 (literal.U32 n) = refl
integer_has t v = tt

pub converted_has : (t : ScalarType) (v : LiteralInstance) → HasType t (converted t v)
converted_has Truth (literal.Bool b) = refl
converted_has (Integer t) v = integer_has t v
converted_has t v = tt

then_has : (t u : ScalarType) (r : Checked) (f : LiteralInstance → Checked) → HasType t r → ((a : LiteralInstance) → type_of a ≡ t → HasType u (f a)) → HasType u (then_value r f)
then_has t u (Ok a) f h k = k a h
then_has t u (Err e) f h k = tt

-- what the operators answer at this type, or with this error where there is none
abbrev pub Meets : Checked → Option ScalarType → Checked → Type 0
Meets e None r = r ≡ e
Meets e (Some t) r = HasType t r

meets_if : (b : Bool) (e r : Checked) (t : ScalarType) → HasType t r → Meets e (if b then Some t else None) (if b then r else e)
meets_if true e r t h = h
meets_if false e r t h = refl

meets_type : (s : ShaderStage) (o : BinaryOperator) (x y : LiteralInstance) (c : Option ScalarType) → Meets (no_candidate o x y) (type_at o c) (at_common s o x y c)
meets_type s o x y None = refl
meets_type s o x y (Some t) =
    meets_if (takes o t) (no_candidate o x y) _ (given o t)
    (then_has t (given o t) (converted t x) _ (converted_has t x) (λ a h. then_has t (given o t) (converted t y) _ (converted_has t y) (λ b k. subst (λ u. HasType (given o u) (of_alike s o a b)) h (alike_have s o a b))))

amount_has : (s : ShaderStage) (o : BinaryOperator) (t : IntegerType) (v : LiteralInstance) (n : ℕ) (k : Option ℕ) → HasType (Integer t) (shifted_or s o t v n k)
amount_has s ShiftLeft t v n (Some k) = exactly_has s t _ _
amount_has s o t v n (Some k) = exactly_has s t _ _
amount_has s o t v n None = tt

shifted_has : (s : ShaderStage) (o : BinaryOperator) (t : IntegerType) (v a : LiteralInstance) → HasType (Integer t) (shifted_value s o t v a)
shifted_has s o t v (literal.U32 n) = amount_has s o t v n (shift_amount s t n)
shifted_has s o t v a = tt

meets_shift : (s : ShaderStage) (o : BinaryOperator) (x y : LiteralInstance) (t : ScalarType) → Meets (no_candidate o x y) (shift_type t (type_of y)) (at_left s o x y t)
meets_shift s o x y (Integer t) =
    meets_if (is_amount (type_of y)) (no_candidate o x y) _ (Integer t) (then_has (Integer U32) (Integer t) (to_integer U32 y) _ (integer_has U32 y) (λ a h. shifted_has s o t x a))
meets_shift s o x y Truth = refl

meets_chosen : (b : Bool) (e : Checked) (c d : Option ScalarType) (p q : Checked) → Meets e c p → Meets e d q → Meets e (if b then c else d) (if b then p else q)
meets_chosen true e c d p q h k = h
meets_chosen false e c d p q h k = k

pub meets : (s : ShaderStage) (o : BinaryOperator) (x y : LiteralInstance) → Meets (no_candidate o x y) (type_between o (type_of x) (type_of y)) (binary_value s o x y)
meets s o x y = meets_chosen (is_shift o) (no_candidate o x y) _ _ _ _ (meets_shift s o x y (type_of x)) (meets_type s o x y (common (type_of x) (type_of y)))

-- ---- the laws

abbrev pub IsError : Checked → Type 0
IsError (Ok v) = ⊥
IsError (Err e) = ⊤

pub has_its_type : (o : BinaryOperator) (x y v : LiteralInstance) (c : Option ScalarType) → Meets (no_candidate o x y) c (Ok v) → c ≡ Some (type_of v)
has_its_type o x y v None h = absurd (subst IsError (sym h) tt)
has_its_type o x y v (Some t) h = ap Some (sym h)

pub value_has_type : (s : ShaderStage) (o : BinaryOperator) (x y v : LiteralInstance) → binary_value s o x y ≡ Ok v → IsBinaryResult o (shader_type_of x) (shader_type_of y) (shader_type_of v)
value_has_type s o x y v h =
    let c = type_between o (type_of x) (type_of y) in
    let e : c ≡ Some (type_of v) = has_its_type o x y v c (subst (Meets (no_candidate o x y) c) h (meets s o x y)) in
    result_found o (shader_type_of x) (shader_type_of y) (shader_type_of v) (sym (result_is o (type_of x) (type_of y) ∙ ap (option_map scalar_type) e))

no_type : (o : BinaryOperator) (x y : LiteralInstance) (c : Option ScalarType) (r : Checked) → HasNoBinaryCandidate o (shader_type_of x) (shader_type_of y)
    → binary_result o (shader_type_of x) (shader_type_of y) ≡ option_map scalar_type c → Meets (no_candidate o x y) c r → r ≡ no_candidate o x y
no_type o x y None r none is h = h
no_type o x y (Some t) r none is h =
    let found = result_found o (shader_type_of x) (shader_type_of y) (scalar_type t) (sym is) in
    absurd (none found.first found.second (scalar_type t) found.sum found.candidate)

pub others_refused : (s : ShaderStage) (o : BinaryOperator) (x y : LiteralInstance) → HasNoBinaryCandidate o (shader_type_of x) (shader_type_of y) → binary_value s o x y ≡ no_candidate o x y
others_refused s o x y none = no_type o x y (type_between o (type_of x) (type_of y)) (binary_value s o x y) none (result_is o (type_of x) (type_of y)) (meets s o x y)
