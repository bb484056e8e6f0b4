-- On scalars, the operators, conversions and constructors of values are those of scalars, which code computes with; so are their types.
use Rattle.std.proofs.Common.{◌≡◌, Bool, true, false, Option, Some, None, Result, Ok, Err, refl, sym, ap, ◌∙◌}
use Rattle.std.specs.Prelude.{pos, is_some, if◌then◌else◌}
use Rattle.std.specs.Option.{option_map}
use Rattle.wgsl_words.specs.declared.operators.UnaryOperator.{UnaryOperator}
use Rattle.wgsl_words.specs.declared.operators.UnaryOperator.TheVariants.{LogicalNegation, Negation, BitwiseComplement, AddressOf, Indirection}
use Rattle.wgsl_words.specs.declared.operators.BinaryOperator.{BinaryOperator}
use Rattle.wgsl_words.specs.declared.operators.BinaryOperator.TheVariants.{ShortCircuitOr, ShortCircuitAnd}
use Rattle.wgsl_words.specs.declared.enumerations.words.ShaderStage.{ShaderStage}
use Rattle.wgsl_shader_type.specs.declared.error.Error.{Error}
use Rattle.wgsl_shader_type.specs.declared.error.Error.TheVariants.{Unary, Binary, Conversion, ConvOverflow, ParamType}
use Rattle.wgsl_shader_type.specs.declared.literal.LiteralInstance.{LiteralInstance}
use Rattle.wgsl_shader_type.specs.declared.literal.LiteralInstance.TheVariants as scalar
use Rattle.wgsl_shader_type.specs.declared.tree.ShaderType.{ShaderType}
use Rattle.wgsl_shader_type.specs.declared.tree.ShaderType as tree
use Rattle.wgsl_shader_type.specs.declared.tree.ShaderType.TheVariants as type
use Rattle.wgsl_shader_type.specs.Alike as types
use Rattle.wgsl_shader_type.specs.Class.{loaded_type}
use Rattle.wgsl_shader_type.specs.Equality.{same_out}
use Rattle.wgsl_shader_type.specs.Rank.{rank_of, rank_layer, converts}
use Rattle.wgsl_type_operators.specs.ResultOf.{binary_result}
use Rattle.wgsl_type_operators.proofs.Candidates.{none_found}
use Rattle.wgsl_shader_type.proofs.Classes.{loaded_of_bool, loaded_of_abstract_int, loaded_of_i32, loaded_of_u32}
use Rattle.wgsl_shader_type.proofs.Ranks.{rank_out}
use Rattle.wgsl_scalar.specs.declared.scalar.ScalarType.{ScalarType}
use Rattle.wgsl_scalar.specs.declared.scalar.ScalarType.TheVariants.{Bool as Truth, Integer}
use Rattle.wgsl_scalar.specs.declared.scalar.IntegerType.TheVariants.{AbstractInt, I32, U32}
use Rattle.wgsl_scalar.specs.Scalars as scalars
use Rattle.wgsl_scalar.specs.Scalars.{scalar_type}
use Rattle.wgsl_scalar.specs.Conversions as conversions
use Rattle.wgsl_scalar.specs.Operators as on_scalars
use Rattle.wgsl_scalar.specs.OperatorTypes as scalar_types
use Rattle.wgsl_scalar.specs.OperatorTypes.{type_or_error, type_between}
use Rattle.wgsl_scalar.specs.Laws.{OtherOperandsAreRefused}
use Rattle.wgsl_scalar.proofs.Types.{result_is}
use Rattle.wgsl_instance.specs.declared.tree.Instance.{Instance}
use Rattle.wgsl_instance.specs.declared.tree.Instance.TheVariants as v
use Rattle.wgsl_instance.specs.declared.tree.Instance.TheOpen.{Instance-F}
use Rattle.wgsl_instance.specs.Answer.{then_with}
use Rattle.wgsl_instance.specs.Typed.{literal_type, type_of}
use Rattle.wgsl_instance.specs.Zero.{Made, zero_value, zero_scalar}
use Rattle.wgsl_instance.specs.Parts.{address_layer, indirection_layer}
use Rattle.wgsl_instance.specs.Converted.{scalar_of, to_scalar, parts_layer, by_types, mismatch, converted, converted_parts}
use Rattle.wgsl_instance.proofs.Typings.{not_ok, literal_typed}
use Rattle.wgsl_instance.proofs.Conversions.{converted_is}
use Rattle.wgsl_instance.proofs.Zeros.{zero_of_bool, zero_of_abstract_int, zero_of_i32, zero_of_u32}
use Rattle.core_computations.specs.Places.{loaded_layer}
use Rattle.wgsl_instance_operators.specs.Operators.{as_literal, by_left, by_right, no_operands, combined, component_layer, no_operand, each_component}
use Rattle.wgsl_instance_operators.specs.Built.{literal_layer, cast, cast_at, built_scalar}
use Rattle.core_computations.specs.Machine.{pure, fail, bind, loaded, of_result}
use Rattle.core_meaning.specs.Values.{decides as decides_scalar}
use Rattle.core_programs.specs.Faults.{Operation, Deferred}
use Rattle.core_programs.specs.Computing.{is_deferred_layer, known, used}
use Rattle.core_programs.specs.Operations.{type_or, if_typed, operand, operand_type, unary_type, unary_value, binary_type, binary_value, decides_layer, decides, argument}

-- two scalars combined
pub combined_scalars : (s : ShaderStage) (o : BinaryOperator) (x y : LiteralInstance) → combined s o (v.Literal x) (v.Literal y) ≡ as_literal (on_scalars.binary_value s o x y)
combined_scalars s o x y =
    let e = no_operands o (v.Literal x) (v.Literal y) in
    (λ k. by_left s o e (v.Literal y) (v.outs-Literal x k)) ∙ (λ k. by_right s o e x (v.outs-Literal y k))

-- refused: where the types have no candidate, the operator on scalars tells both
pub binary_of_scalars : OtherOperandsAreRefused → (s : ShaderStage) (o : BinaryOperator) (x y : LiteralInstance) → binary_value s o (v.Literal x) (v.Literal y) ≡ as_literal (on_scalars.binary_value s o x y)
binary_of_scalars refused s o x y =
    (λ k. if_typed (binary_type o (literal_typed x k) (literal_typed y k)) (combined_scalars s o x y k)) ∙ at (binary_result o (literal_type x) (literal_type y)) refl
  where
    at : (r : Option ShaderType) → binary_result o (literal_type x) (literal_type y) ≡ r
        → if_typed (type_or (Binary o (literal_type x) (literal_type y)) r) (as_literal (on_scalars.binary_value s o x y)) ≡ as_literal (on_scalars.binary_value s o x y)
    at (Some t) e = refl
    at None e = sym (ap as_literal (refused s o x y (none_found o (literal_type x) (literal_type y) (sym e))))

-- ---- where a scalar is used

loaded_literal : (x : LiteralInstance) → loaded Operation (v.Literal x) ≡ pure (v.Literal x)
loaded_literal x = λ k s. of_result Operation (loaded_layer s.cells (v.Literal x) (v.outs-Literal x k)) s

known_literal : (x : LiteralInstance) → known (v.Literal x) ≡ pure (v.Literal x)
known_literal x = λ k. if is_deferred_layer (v.outs-Literal x k) then fail (Deferred (type_of (v.Literal x))) else pure (v.Literal x)

pub used_literal : (x : LiteralInstance) → used (v.Literal x) ≡ pure (v.Literal x)
used_literal x = ap (λ m. bind m known) (loaded_literal x) ∙ known_literal x

pub operand_literal : (o : UnaryOperator) (x : LiteralInstance) → operand o (v.Literal x) ≡ pure (v.Literal x)
operand_literal AddressOf x = refl
operand_literal Indirection x = used_literal x
operand_literal LogicalNegation x = used_literal x
operand_literal Negation x = used_literal x
operand_literal BitwiseComplement x = used_literal x

-- ---- an operator in front of a scalar

-- where the types' rules refuse a scalar, the operator on scalars does, with the same fault
taken_or_refused : (s : ShaderStage) (o : UnaryOperator) (x : LiteralInstance) → if_typed (unary_type o (literal_type x)) (as_literal (on_scalars.unary_value s o x)) ≡ as_literal (on_scalars.unary_value s o x)
unfolding tree.out-ShaderType denote.Hole.Carrier.out
taken_or_refused s LogicalNegation (scalar.Bool b) = refl
taken_or_refused s LogicalNegation (scalar.AbstractInt z) = refl
taken_or_refused s LogicalNegation (scalar.I32 z) = refl
taken_or_refused s LogicalNegation (scalar.U32 n) = refl
taken_or_refused s Negation (scalar.Bool b) = refl
taken_or_refused s Negation (scalar.AbstractInt z) = refl
taken_or_refused s Negation (scalar.I32 z) = refl
taken_or_refused s Negation (scalar.U32 n) = refl
taken_or_refused s BitwiseComplement (scalar.Bool b) = refl
taken_or_refused s BitwiseComplement (scalar.AbstractInt z) = refl
taken_or_refused s BitwiseComplement (scalar.I32 z) = refl
taken_or_refused s BitwiseComplement (scalar.U32 n) = refl
taken_or_refused s AddressOf (scalar.Bool b) = refl
taken_or_refused s AddressOf (scalar.AbstractInt z) = refl
taken_or_refused s AddressOf (scalar.I32 z) = refl
taken_or_refused s AddressOf (scalar.U32 n) = refl
taken_or_refused s Indirection (scalar.Bool b) = refl
taken_or_refused s Indirection (scalar.AbstractInt z) = refl
taken_or_refused s Indirection (scalar.I32 z) = refl
taken_or_refused s Indirection (scalar.U32 n) = refl

-- a scalar is no vector: its one component
one_component : (s : ShaderStage) (o : UnaryOperator) (x : LiteralInstance) → if_typed (unary_type o (type_of (v.Literal x))) (each_component s o (v.Literal x)) ≡ as_literal (on_scalars.unary_value s o x)
one_component s o x =
    (λ k. if_typed (unary_type o (literal_typed x k)) (component_layer s o (no_operand o (v.Literal x)) (v.outs-Literal x k))) ∙ taken_or_refused s o x

pub unary_of_scalars : (s : ShaderStage) (o : UnaryOperator) (x : LiteralInstance) → unary_value s o (v.Literal x) ≡ as_literal (on_scalars.unary_value s o x)
unary_of_scalars s AddressOf x = (λ k. address_layer (v.Literal x) (v.outs-Literal x k)) ∙ ap (λ t. Err (Unary AddressOf t)) (literal_typed x)
unary_of_scalars s Indirection x = (λ k. indirection_layer (v.Literal x) (v.outs-Literal x k)) ∙ ap (λ t. Err (Unary Indirection t)) (literal_typed x)
unary_of_scalars s LogicalNegation x = one_component s LogicalNegation x
unary_of_scalars s Negation x = one_component s Negation x
unary_of_scalars s BitwiseComplement x = one_component s BitwiseComplement x

-- ---- short-circuiting operators

decides_same : (o : BinaryOperator) (x : LiteralInstance) → decides_layer {A = Instance} o (Instance-F.Literal x) ≡ decides_scalar o x
decides_same ShortCircuitAnd (scalar.Bool false) = refl
decides_same ShortCircuitOr (scalar.Bool true) = refl
decides_same o x = refl

pub decides_literal : (o : BinaryOperator) (x : LiteralInstance) → decides o (v.Literal x) ≡ decides_scalar o x
decides_literal o x = (λ k. decides_layer o (v.outs-Literal x k)) ∙ decides_same o x

-- ---- types of scalars

pub scalar_of_scalar : (t : ScalarType) → scalar_of (scalar_type t) ≡ Some t
unfolding tree.out-ShaderType denote.Hole.Carrier.out
scalar_of_scalar Truth = refl
scalar_of_scalar (Integer AbstractInt) = refl
scalar_of_scalar (Integer I32) = refl
scalar_of_scalar (Integer U32) = refl

pub type_of_literal : (x : LiteralInstance) → type_of (v.Literal x) ≡ scalar_type (scalars.type_of x)
type_of_literal x = literal_typed x

pub loaded_scalar : (t : ScalarType) → loaded_type (scalar_type t) ≡ scalar_type t
loaded_scalar Truth = loaded_of_bool
loaded_scalar (Integer AbstractInt) = loaded_of_abstract_int
loaded_scalar (Integer I32) = loaded_of_i32
loaded_scalar (Integer U32) = loaded_of_u32

pub operand_scalar : (o : UnaryOperator) (t : ScalarType) → operand_type o (scalar_type t) ≡ scalar_type t
operand_scalar AddressOf t = refl
operand_scalar Indirection t = loaded_scalar t
operand_scalar LogicalNegation t = loaded_scalar t
operand_scalar Negation t = loaded_scalar t
operand_scalar BitwiseComplement t = loaded_scalar t

-- a type of scalars as one of all types; an error stays
abbrev pub as_type : Result ScalarType Error → Result ShaderType Error
as_type r = then_with r (λ t. Ok (scalar_type t))

type_same : (e : Error) (c : Option ScalarType) → type_or e (option_map scalar_type c) ≡ as_type (type_or_error e c)
type_same e (Some t) = refl
type_same e None = refl

pub binary_type_of_scalars : (o : BinaryOperator) (t u : ScalarType) → binary_type o (loaded_type (scalar_type t)) (loaded_type (scalar_type u)) ≡ as_type (scalar_types.binary_type o t u)
binary_type_of_scalars o t u =
    (λ k. binary_type o (loaded_scalar t k) (loaded_scalar u k)) ∙ ap (type_or (Binary o (scalar_type t) (scalar_type u))) (result_is o t u)
    ∙ type_same (Binary o (scalar_type t) (scalar_type u)) (type_between o t u)

taken_in_front : (o : UnaryOperator) (t : ScalarType) → unary_type o (scalar_type t) ≡ as_type (scalar_types.unary_type o t)
unfolding tree.out-ShaderType denote.Hole.Carrier.out
taken_in_front LogicalNegation Truth = refl
taken_in_front LogicalNegation (Integer AbstractInt) = refl
taken_in_front LogicalNegation (Integer I32) = refl
taken_in_front LogicalNegation (Integer U32) = refl
taken_in_front Negation Truth = refl
taken_in_front Negation (Integer AbstractInt) = refl
taken_in_front Negation (Integer I32) = refl
taken_in_front Negation (Integer U32) = refl
taken_in_front BitwiseComplement Truth = refl
taken_in_front BitwiseComplement (Integer AbstractInt) = refl
taken_in_front BitwiseComplement (Integer I32) = refl
taken_in_front BitwiseComplement (Integer U32) = refl
taken_in_front AddressOf Truth = refl
taken_in_front AddressOf (Integer AbstractInt) = refl
taken_in_front AddressOf (Integer I32) = refl
taken_in_front AddressOf (Integer U32) = refl
taken_in_front Indirection Truth = refl
taken_in_front Indirection (Integer AbstractInt) = refl
taken_in_front Indirection (Integer I32) = refl
taken_in_front Indirection (Integer U32) = refl

pub unary_type_of_scalars : (o : UnaryOperator) (t : ScalarType) → unary_type o (operand_type o (scalar_type t)) ≡ as_type (scalar_types.unary_type o t)
unary_type_of_scalars o t = ap (unary_type o) (operand_scalar o t) ∙ taken_in_front o t

-- ---- conversions and constructors of scalars

abbrev pub is_same : ScalarType → ScalarType → Bool
is_same Truth Truth = true
is_same (Integer AbstractInt) (Integer AbstractInt) = true
is_same (Integer I32) (Integer I32) = true
is_same (Integer U32) (Integer U32) = true
is_same t u = false

converts_ranked : (t u : ScalarType) → is_some (rank_layer types.same rank_of (tree.out-ShaderType (scalar_type t)) (tree.out-ShaderType (scalar_type u))) ≡ scalar_types.converts t u
unfolding tree.out-ShaderType denote.Hole.Carrier.out
converts_ranked Truth Truth = refl
converts_ranked Truth (Integer AbstractInt) = refl
converts_ranked Truth (Integer I32) = refl
converts_ranked Truth (Integer U32) = refl
converts_ranked (Integer AbstractInt) Truth = refl
converts_ranked (Integer AbstractInt) (Integer AbstractInt) = refl
converts_ranked (Integer AbstractInt) (Integer I32) = refl
converts_ranked (Integer AbstractInt) (Integer U32) = refl
converts_ranked (Integer I32) Truth = refl
converts_ranked (Integer I32) (Integer AbstractInt) = refl
converts_ranked (Integer I32) (Integer I32) = refl
converts_ranked (Integer I32) (Integer U32) = refl
converts_ranked (Integer U32) Truth = refl
converts_ranked (Integer U32) (Integer AbstractInt) = refl
converts_ranked (Integer U32) (Integer I32) = refl
converts_ranked (Integer U32) (Integer U32) = refl

pub converts_of_scalars : (t u : ScalarType) → converts (scalar_type t) (scalar_type u) ≡ scalar_types.converts t u
converts_of_scalars t u = ap is_some (rank_out (scalar_type t) (scalar_type u)) ∙ converts_ranked t u

same_ranked : (t u : ScalarType) → types.same_layer types.same (tree.out-ShaderType (scalar_type t)) (tree.out-ShaderType (scalar_type u)) ≡ is_same t u
unfolding tree.out-ShaderType denote.Hole.Carrier.out
same_ranked Truth Truth = refl
same_ranked Truth (Integer AbstractInt) = refl
same_ranked Truth (Integer I32) = refl
same_ranked Truth (Integer U32) = refl
same_ranked (Integer AbstractInt) Truth = refl
same_ranked (Integer AbstractInt) (Integer AbstractInt) = refl
same_ranked (Integer AbstractInt) (Integer I32) = refl
same_ranked (Integer AbstractInt) (Integer U32) = refl
same_ranked (Integer I32) Truth = refl
same_ranked (Integer I32) (Integer AbstractInt) = refl
same_ranked (Integer I32) (Integer I32) = refl
same_ranked (Integer I32) (Integer U32) = refl
same_ranked (Integer U32) Truth = refl
same_ranked (Integer U32) (Integer AbstractInt) = refl
same_ranked (Integer U32) (Integer I32) = refl
same_ranked (Integer U32) (Integer U32) = refl

pub same_of_scalars : (t u : ScalarType) → types.same (scalar_type t) (scalar_type u) ≡ is_same t u
same_of_scalars t u = same_out (scalar_type t) (scalar_type u) ∙ same_ranked t u

-- an AbstractInt is in its type's range where it is converted to its own type; values of code are
abbrev pub IsInRange : ScalarType → LiteralInstance → Type 0
IsInRange (Integer AbstractInt) (scalar.AbstractInt z) = scalars.fits AbstractInt z ≡ true
IsInRange t x = Unit {0}

-- the value itself, or its conversion, or a mismatch
abbrev chosen_of : Bool → Bool → LiteralInstance → ScalarType → Made
chosen_of same converting x t = by_types same converting (Ok (v.Literal x)) (as_literal (conversions.converted t x)) (Err (Conversion (literal_type x) (scalar_type t)))

chosen : (x : LiteralInstance) (t : ScalarType) → IsInRange t x → chosen_of (is_same (scalars.type_of x) t) (scalar_types.converts (scalars.type_of x) t) x t ≡ as_literal (conversions.converted t x)
chosen (scalar.Bool b) Truth h = refl
chosen (scalar.Bool b) (Integer AbstractInt) h = refl
chosen (scalar.Bool b) (Integer I32) h = refl
chosen (scalar.Bool b) (Integer U32) h = refl
chosen (scalar.AbstractInt z) Truth h = refl
chosen (scalar.AbstractInt z) (Integer AbstractInt) h = ap (λ b. as_literal (if b then Ok (scalar.AbstractInt z) else Err (ConvOverflow (scalar.AbstractInt z) type.AbstractInt))) (sym h)
chosen (scalar.AbstractInt z) (Integer I32) h = refl
chosen (scalar.AbstractInt z) (Integer U32) h = refl
chosen (scalar.I32 z) Truth h = refl
chosen (scalar.I32 z) (Integer AbstractInt) h = refl
chosen (scalar.I32 z) (Integer I32) h = refl
chosen (scalar.I32 z) (Integer U32) h = refl
chosen (scalar.U32 n) Truth h = refl
chosen (scalar.U32 n) (Integer AbstractInt) h = refl
chosen (scalar.U32 n) (Integer I32) h = refl
chosen (scalar.U32 n) (Integer U32) h = refl

converted_part : (x : LiteralInstance) (t : ScalarType) → converted_parts (v.Literal x) (scalar_type t) ≡ as_literal (conversions.converted t x)
converted_part x t =
    (λ k. parts_layer converted (mismatch (v.Literal x) (scalar_type t)) (scalar_type t) (v.outs-Literal x k))
    ∙ ap (λ o. as_literal (to_scalar (scalar_type t) o x)) (scalar_of_scalar t)

pub converted_scalar : (x : LiteralInstance) (t : ScalarType) → IsInRange t x → converted (v.Literal x) (scalar_type t) ≡ as_literal (conversions.converted t x)
converted_scalar x t h =
    converted_is (v.Literal x) (scalar_type t)
    ∙ (λ k. by_types (types.same (literal_typed x k) (scalar_type t)) (converts (literal_typed x k) (scalar_type t)) (Ok (v.Literal x)) (converted_part x t k) (Err (Conversion (literal_typed x k) (scalar_type t))))
    ∙ (λ k. chosen_of (same_of_scalars (scalars.type_of x) t k) (converts_of_scalars (scalars.type_of x) t k) x t)
    ∙ chosen x t h

-- where the conversion of the scalar gives one, it was in range
in_range : (x : LiteralInstance) (t : ScalarType) (y : LiteralInstance) → conversions.converted t x ≡ Ok y → IsInRange t x
in_range (scalar.AbstractInt z) (Integer AbstractInt) y h = at (scalars.fits AbstractInt z) h
  where
    at : (b : Bool) → (if b then Ok (scalar.AbstractInt z) else Err (ConvOverflow (scalar.AbstractInt z) type.AbstractInt)) ≡ Ok y → b ≡ true
    at true h = refl
    at false h = not_ok (ConvOverflow (scalar.AbstractInt z) type.AbstractInt) y h
in_range x (Integer AbstractInt) y h = tt
in_range x (Integer I32) y h = tt
in_range x (Integer U32) y h = tt
in_range x Truth y h = tt

pub converted_scalar_ok : (x : LiteralInstance) (t : ScalarType) (y : LiteralInstance) → conversions.converted t x ≡ Ok y → converted (v.Literal x) (scalar_type t) ≡ Ok (v.Literal y)
converted_scalar_ok x t y h = converted_scalar x t (in_range x t y h) ∙ ap as_literal h

-- to an integer type of a size, whatever the number is
pub converted_i32 : (x : LiteralInstance) → converted (v.Literal x) (scalar_type (Integer I32)) ≡ as_literal (conversions.converted (Integer I32) x)
converted_i32 x = converted_scalar x (Integer I32) tt

pub converted_u32 : (x : LiteralInstance) → converted (v.Literal x) (scalar_type (Integer U32)) ≡ as_literal (conversions.converted (Integer U32) x)
converted_u32 x = converted_scalar x (Integer U32) tt

-- where the type doesn't convert, the error tells the parameter's type first
pub argument_of_scalar : (x : LiteralInstance) (t : ScalarType) → IsInRange t x
    → argument (scalar_type t) (v.Literal x) ≡ (if scalar_types.converts (scalars.type_of x) t then as_literal (conversions.converted t x) else Err (ParamType (scalar_type t) (literal_type x)))
argument_of_scalar x t h =
    (λ k. if converts (literal_typed x k) (scalar_type t) then converted_scalar x t h k else Err (ParamType (scalar_type t) (literal_typed x k)))
    ∙ (λ k. if converts_of_scalars (scalars.type_of x) t k then as_literal (conversions.converted t x) else Err (ParamType (scalar_type t) (literal_type x)))

pub built_of_scalar : (x : LiteralInstance) (t : ScalarType) → built_scalar (scalar_type t) (v.Literal x) ≡ as_literal (conversions.constructed t x)
built_of_scalar x t =
    (λ k. as_literal (then_with (literal_layer (v.Literal x) (v.outs-Literal x k)) (cast (scalar_type t)))) ∙ ap (λ o. as_literal (cast_at (scalar_type t) o x)) (scalar_of_scalar t)

zero_made : (t : ScalarType) → zero_scalar (scalar_type t) ≡ as_literal (conversions.constructed t (scalar.AbstractInt (pos 0)))
unfolding tree.out-ShaderType denote.Hole.Carrier.out
zero_made Truth = refl
zero_made (Integer AbstractInt) = refl
zero_made (Integer I32) = refl
zero_made (Integer U32) = refl

pub zero_of_scalar : (t : ScalarType) → zero_value (scalar_type t) ≡ as_literal (conversions.constructed t (scalar.AbstractInt (pos 0)))
zero_of_scalar Truth = zero_of_bool ∙ zero_made Truth
zero_of_scalar (Integer AbstractInt) = zero_of_abstract_int ∙ zero_made (Integer AbstractInt)
zero_of_scalar (Integer I32) = zero_of_i32 ∙ zero_made (Integer I32)
zero_of_scalar (Integer U32) = zero_of_u32 ∙ zero_made (Integer U32)
