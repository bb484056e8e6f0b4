-- The types of operators on scalars are those of all types, and values have them.
use Rattle.std.proofs.Common.{◌≡◌, ℕ, true≢false, refl, sym, ap, subst}
use Rattle.std.specs.Prelude.{neg_ℤ, ◌↔◌, IsTrue, MatchResult, MatchOption, is_some, Option, Some, None, Ok, Err}
use Rattle.std.specs.Option.{option_map}
use Rattle.wgsl_words.specs.declared.operators.UnaryOperator.{UnaryOperator}
use Rattle.wgsl_words.specs.declared.operators.UnaryOperator.TheVariants.{LogicalNegation, Negation, BitwiseComplement, AddressOf, Indirection}
use Rattle.wgsl_words.specs.declared.operators.BinaryOperator.{BinaryOperator}
use Rattle.wgsl_words.specs.declared.enumerations.words.ShaderStage.{ShaderStage}
use Rattle.wgsl_words.specs.declared.enumerations.words.ShaderStage.TheVariants.{Const, Exec}
use Rattle.wgsl_type_operators.specs.ShaderType.{ShaderType}
use Rattle.wgsl_type_operators.specs.ShaderType as tree
use Rattle.wgsl_type_operators.specs.Error.{Error}
use Rattle.wgsl_type_operators.specs.Error.TheVariants.{SubOverflow, Unary, Binary}
use Rattle.wgsl_type_operators.specs.LiteralInstance.{LiteralInstance}
use Rattle.wgsl_type_operators.specs.LiteralInstance.TheVariants as literal
use Rattle.wgsl_type_operators.specs.Conversion.{Converts}
use Rattle.wgsl_type_operators.specs.Operator.{IsBinaryResult, HasNoBinaryCandidate, IsUnaryResult, HasNoUnaryCandidate}
use Rattle.wgsl_type_operators.specs.ResultOf.{binary_result, unary_result}
use Rattle.wgsl_type_operators.specs.Rank.{rank_of, converts as converts_type}
use Rattle.wgsl_type_operators.proofs.Ranks.{rank_out, rank_is_least}
use Rattle.wgsl_type_operators.proofs.Candidates.{result_found, none_found}
use Rattle.wgsl_type_operators.proofs.UnaryCandidates as unary
use Rattle.wgsl_scalar.specs.declared.scalar.ScalarType.{ScalarType}
use Rattle.wgsl_scalar.specs.declared.scalar.ScalarType.TheVariants.{Bool as Truth, Integer}
use Rattle.wgsl_scalar.specs.declared.scalar.IntegerType.TheVariants.{AbstractInt, I32, U32}
use Rattle.wgsl_scalar.specs.Scalars.{scalar_type, type_of, fits}
use Rattle.wgsl_scalar.specs.Conversions.{Checked, converted, constructed}
use Rattle.wgsl_scalar.specs.Operators.{negated, unary_value, binary_value}
use Rattle.wgsl_scalar.specs.OperatorTypes.{converts, type_or_error, type_in_front, unary_type, type_between, binary_type}
use Rattle.wgsl_scalar.proofs.Types.{result_is, HasType, Meets, IsError, meets, exactly_has, converted_has, value_has, abstract_has}
use Rattle.wgsl_scalar.proofs.Stages.{Holds, same_holds, or_error_holds, exact_holds}

-- ---- conversions

converts_same : (s t : ScalarType) → converts_type (scalar_type s) (scalar_type t) ≡ converts s t
unfolding tree.out-ShaderType denote.Hole.Carrier.out
converts_same Truth Truth = ap is_some (rank_out (scalar_type Truth) (scalar_type Truth))
converts_same Truth (Integer AbstractInt) = ap is_some (rank_out (scalar_type Truth) (scalar_type (Integer AbstractInt)))
converts_same Truth (Integer I32) = ap is_some (rank_out (scalar_type Truth) (scalar_type (Integer I32)))
converts_same Truth (Integer U32) = ap is_some (rank_out (scalar_type Truth) (scalar_type (Integer U32)))
converts_same (Integer AbstractInt) Truth = ap is_some (rank_out (scalar_type (Integer AbstractInt)) (scalar_type Truth))
converts_same (Integer AbstractInt) (Integer AbstractInt) = ap is_some (rank_out (scalar_type (Integer AbstractInt)) (scalar_type (Integer AbstractInt)))
converts_same (Integer AbstractInt) (Integer I32) = ap is_some (rank_out (scalar_type (Integer AbstractInt)) (scalar_type (Integer I32)))
converts_same (Integer AbstractInt) (Integer U32) = ap is_some (rank_out (scalar_type (Integer AbstractInt)) (scalar_type (Integer U32)))
converts_same (Integer I32) Truth = ap is_some (rank_out (scalar_type (Integer I32)) (scalar_type Truth))
converts_same (Integer I32) (Integer AbstractInt) = ap is_some (rank_out (scalar_type (Integer I32)) (scalar_type (Integer AbstractInt)))
converts_same (Integer I32) (Integer I32) = ap is_some (rank_out (scalar_type (Integer I32)) (scalar_type (Integer I32)))
converts_same (Integer I32) (Integer U32) = ap is_some (rank_out (scalar_type (Integer I32)) (scalar_type (Integer U32)))
converts_same (Integer U32) Truth = ap is_some (rank_out (scalar_type (Integer U32)) (scalar_type Truth))
converts_same (Integer U32) (Integer AbstractInt) = ap is_some (rank_out (scalar_type (Integer U32)) (scalar_type (Integer AbstractInt)))
converts_same (Integer U32) (Integer I32) = ap is_some (rank_out (scalar_type (Integer U32)) (scalar_type (Integer I32)))
converts_same (Integer U32) (Integer U32) = ap is_some (rank_out (scalar_type (Integer U32)) (scalar_type (Integer U32)))

by_rank : (a b : ShaderType) (o : Option ℕ) → o ≡ rank_of a b → MatchOption o (¬ Converts a b) (λ n. Converts a b) → IsTrue (is_some o) ↔ Converts a b
by_rank a b None h none = (λ t. absurd (true≢false (sym t)), λ c. absurd (none c))
by_rank a b (Some n) h path = (λ t. path, λ c. refl)

path_of : (a b : ShaderType) (o : Option ℕ) → o ≡ rank_of a b → MatchOption o (¬ Converts a b) (λ n. Converts a b)
path_of a b None h = rank_is_least a b None h
path_of a b (Some n) h = (n, (rank_is_least a b (Some n) h).path)

pub converts_alike : (s t : ScalarType) → IsTrue (converts s t) ↔ Converts (scalar_type s) (scalar_type t)
converts_alike s t =
    subst (λ b. IsTrue b ↔ Converts (scalar_type s) (scalar_type t)) (converts_same s t)
    (by_rank (scalar_type s) (scalar_type t) (rank_of (scalar_type s) (scalar_type t)) refl (path_of (scalar_type s) (scalar_type t) _ refl))

-- ---- types of operators

unary_same : (o : UnaryOperator) (t : ScalarType) → unary_result o (scalar_type t) ≡ option_map scalar_type (type_in_front o t)
unfolding tree.out-ShaderType denote.Hole.Carrier.out
unary_same LogicalNegation Truth = refl
unary_same LogicalNegation (Integer AbstractInt) = refl
unary_same LogicalNegation (Integer I32) = refl
unary_same LogicalNegation (Integer U32) = refl
unary_same Negation Truth = refl
unary_same Negation (Integer AbstractInt) = refl
unary_same Negation (Integer I32) = refl
unary_same Negation (Integer U32) = refl
unary_same BitwiseComplement Truth = refl
unary_same BitwiseComplement (Integer AbstractInt) = refl
unary_same BitwiseComplement (Integer I32) = refl
unary_same BitwiseComplement (Integer U32) = refl
unary_same AddressOf Truth = refl
unary_same AddressOf (Integer AbstractInt) = refl
unary_same AddressOf (Integer I32) = refl
unary_same AddressOf (Integer U32) = refl
unary_same Indirection Truth = refl
unary_same Indirection (Integer AbstractInt) = refl
unary_same Indirection (Integer I32) = refl
unary_same Indirection (Integer U32) = refl

pub unary_types_alike : (o : UnaryOperator) (t : ScalarType) → MatchResult (unary_type o t)
    (λ result. IsUnaryResult o (scalar_type t) (scalar_type result))
    (λ error. HasNoUnaryCandidate o (scalar_type t) × (error ≡ Unary o (scalar_type t)))
unary_types_alike o t = by (type_in_front o t) (unary_same o t)
  where
    by : (c : Option ScalarType) → unary_result o (scalar_type t) ≡ option_map scalar_type c → MatchResult (type_or_error (Unary o (scalar_type t)) c)
        (λ result. IsUnaryResult o (scalar_type t) (scalar_type result))
        (λ error. HasNoUnaryCandidate o (scalar_type t) × (error ≡ Unary o (scalar_type t)))
    by (Some u) h = unary.result_found o (scalar_type t) (scalar_type u) (sym h)
    by None h = (unary.none_found o (scalar_type t) (sym h), refl)

pub binary_types_alike : (o : BinaryOperator) (t u : ScalarType) → MatchResult (binary_type o t u)
    (λ result. IsBinaryResult o (scalar_type t) (scalar_type u) (scalar_type result))
    (λ error. HasNoBinaryCandidate o (scalar_type t) (scalar_type u) × (error ≡ Binary o (scalar_type t) (scalar_type u)))
binary_types_alike o t u = by (type_between o t u) (result_is o t u)
  where
    by : (c : Option ScalarType) → binary_result o (scalar_type t) (scalar_type u) ≡ option_map scalar_type c → MatchResult (type_or_error (Binary o (scalar_type t) (scalar_type u)) c)
        (λ result. IsBinaryResult o (scalar_type t) (scalar_type u) (scalar_type result))
        (λ error. HasNoBinaryCandidate o (scalar_type t) (scalar_type u) × (error ≡ Binary o (scalar_type t) (scalar_type u)))
    by (Some v) h = result_found o (scalar_type t) (scalar_type u) (scalar_type v) (sym h)
    by None h = (none_found o (scalar_type t) (scalar_type u) (sym h), refl)

-- ---- values have them

abbrev refused : UnaryOperator → LiteralInstance → Checked
refused o v = Err (Unary o (scalar_type (type_of v)))

unary_meets : (s : ShaderStage) (o : UnaryOperator) (v : LiteralInstance) → Meets (refused o v) (type_in_front o (type_of v)) (unary_value s o v)
unary_meets s Negation (literal.AbstractInt z) = exactly_has s AbstractInt (neg_ℤ z) SubOverflow
unary_meets s Negation (literal.I32 z) = exactly_has Exec I32 (neg_ℤ z) SubOverflow
unary_meets s Negation (literal.U32 n) = refl
unary_meets s Negation (literal.Bool b) = refl
unary_meets s BitwiseComplement (literal.AbstractInt z) = refl
unary_meets s BitwiseComplement (literal.I32 z) = refl
unary_meets s BitwiseComplement (literal.U32 n) = refl
unary_meets s BitwiseComplement (literal.Bool b) = refl
unary_meets s LogicalNegation (literal.AbstractInt z) = refl
unary_meets s LogicalNegation (literal.I32 z) = refl
unary_meets s LogicalNegation (literal.U32 n) = refl
unary_meets s LogicalNegation (literal.Bool b) = refl
unary_meets s AddressOf v = refl
unary_meets s Indirection v = refl

its_type : (e : Error) (v : LiteralInstance) (c : Option ScalarType) → Meets (Err e) c (Ok v) → c ≡ Some (type_of v)
its_type e v None h = absurd (subst IsError (sym h) tt)
its_type e v (Some t) h = ap Some (sym h)

pub unary_has : (s : ShaderStage) (o : UnaryOperator) (x v : LiteralInstance) → unary_value s o x ≡ Ok v → unary_type o (type_of x) ≡ Ok (type_of v)
unary_has s o x v h =
    let e : Error = Unary o (scalar_type (type_of x)) in
    let c = type_in_front o (type_of x) in
    ap (type_or_error e) (its_type e v c (subst (Meets (Err e) c) h (unary_meets s o x)))

pub binary_has : (s : ShaderStage) (o : BinaryOperator) (x y v : LiteralInstance) → binary_value s o x y ≡ Ok v → binary_type o (type_of x) (type_of y) ≡ Ok (type_of v)
binary_has s o x y v h =
    let e : Error = Binary o (scalar_type (type_of x)) (scalar_type (type_of y)) in
    let c = type_between o (type_of x) (type_of y) in
    ap (type_or_error e) (its_type e v c (subst (Meets (Err e) c) h (meets s o x y)))

pub converted_to : (t : ScalarType) (x v : LiteralInstance) → converted t x ≡ Ok v → type_of v ≡ t
converted_to t x v h = subst (HasType t) h (converted_has t x)

constructed_has : (t : ScalarType) (v : LiteralInstance) → HasType t (constructed t v)
constructed_has Truth (literal.Bool b) = refl
constructed_has Truth (literal.AbstractInt z) = refl
constructed_has Truth (literal.I32 z) = refl
constructed_has Truth (literal.U32 n) = refl
constructed_has (Integer t) (literal.Bool b) = value_has t _
constructed_has (Integer t) (literal.AbstractInt z) = abstract_has (fits t z) t _ _ (value_has t z)
constructed_has (Integer AbstractInt) (literal.I32 z) = refl
constructed_has (Integer AbstractInt) (literal.U32 n) = refl
constructed_has (Integer I32) (literal.I32 z) = refl
constructed_has (Integer I32) (literal.U32 n) = refl
constructed_has (Integer U32) (literal.I32 z) = refl
constructed_has (Integer U32) (literal.U32 n) = refl

pub constructed_to : (t : ScalarType) (x v : LiteralInstance) → constructed t x ≡ Ok v → type_of v ≡ t
constructed_to t x v h = subst (HasType t) h (constructed_has t x)

-- ---- at each stage

negated_holds : (s : ShaderStage) (v : LiteralInstance) → Holds (negated Const v) (negated s v)
negated_holds s (literal.AbstractInt z) = or_error_holds _ _ _ (exact_holds s AbstractInt (neg_ℤ z))
negated_holds s (literal.I32 z) = same_holds (negated s (literal.I32 z))
negated_holds s (literal.U32 n) = tt
negated_holds s (literal.Bool b) = tt

unary_holds : (s : ShaderStage) (o : UnaryOperator) (v : LiteralInstance) → Holds (unary_value Const o v) (unary_value s o v)
unary_holds s Negation v = negated_holds s v
unary_holds s o v = same_holds (unary_value s o v)

pub const_value_holds : (s : ShaderStage) (o : UnaryOperator) (x v : LiteralInstance) → unary_value Const o x ≡ Ok v → unary_value s o x ≡ Ok v
const_value_holds s o x v h = subst (λ r. Holds r (unary_value s o x)) h (unary_holds s o x)
