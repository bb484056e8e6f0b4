-- A value has its type.
use Rattle.std.proofs.Common.{◌≡◌, ℕ, zero, suc, ◌==◌, Bool, true, false, List, [], ◌∷◌, ◌++◌, length, All, Option, Some, None, Result, Ok, Err, refl, sym, ap, ◌∙◌, subst, true≢false}
use Rattle.std.specs.Prelude.{IsTrue, codes, if◌then◌else◌}
use Rattle.std.specs.Option.{option_map}
use Rattle.std.specs.Result.{is_ok}
use Rattle.std.specs.Str.{bytes_eq}
use Rattle.std.proofs.lemmas.List.Elements.{All-nil, All-cons, All-head, All-tail, All-append}
use Rattle.wgsl_words.specs.declared.operators.UnaryOperator.{UnaryOperator}
use Rattle.wgsl_words.specs.declared.operators.UnaryOperator.TheVariants.{AddressOf, Indirection, LogicalNegation, Negation, BitwiseComplement}
use Rattle.wgsl_words.specs.declared.operators.BinaryOperator.{BinaryOperator}
use Rattle.wgsl_words.specs.declared.operators.BinaryOperator.TheVariants.{ShortCircuitOr, ShortCircuitAnd}
use Rattle.core_syntax.specs.declared.expression.LiteralExpression.{LiteralExpression}
use Rattle.core_syntax.specs.declared.expression.LiteralExpression.TheVariants as L
use Rattle.core_syntax.specs.Tree.{Exp, Exps, literal, parenthesized, unary, binary, call, named, nil, cons, Typ, simple, templated, Stm, returning, Param, Decl, variable, function}
use Rattle.wgsl_words.specs.declared.enumerations.address.AddressSpace.{AddressSpace}
use Rattle.wgsl_words.specs.declared.enumerations.address.AccessMode.{AccessMode}
use Rattle.wgsl_words.specs.declared.enumerations.words.ShaderStage.{ShaderStage}
use Rattle.wgsl_words.specs.declared.enumerations.words.ShaderStage.TheVariants.{Const, Override, Exec}
use Rattle.wgsl_shader_type.specs.declared.error.Error.{Error}
use Rattle.wgsl_shader_type.specs.declared.error.Error.TheVariants as error
use Rattle.wgsl_shader_type.specs.declared.literal.LiteralInstance.{LiteralInstance}
use Rattle.wgsl_shader_type.specs.declared.literal.LiteralInstance.TheVariants as scalar
use Rattle.wgsl_shader_type.specs.declared.tree.ShaderType.{ShaderType, roll-ShaderType, out-ShaderType, roll-out-ShaderType}
use Rattle.wgsl_shader_type.specs.declared.tree.ShaderType as tree
use Rattle.wgsl_shader_type.specs.declared.tree.ShaderType.TheOpen.{ShaderType-F}
use Rattle.wgsl_shader_type.specs.declared.tree.ShaderType.TheVariants as type
use Rattle.wgsl_shader_type.specs.Class.{is_bool, bool_layer, is_handle, loaded_type}
use Rattle.wgsl_type_operators.specs.Operator.{takes, gives, is_arithmetic, is_logical, is_shift, ScalarSignature, Signature}
use Rattle.wgsl_shader_type.specs.Rank.{converts}
use Rattle.wgsl_type_operators.specs.ResultOf.{unary_result, unary_fault, binary_result}
use Rattle.wgsl_shader_type.specs.Alike.{same}
use Rattle.wgsl_shader_type.specs.Equality.{equal_if_same}
use Rattle.wgsl_shader_type.specs.Trees.{induction}
use Rattle.wgsl_type_operators.proofs.Candidates.{result_found}
use Rattle.wgsl_type_operators.proofs.UnaryCandidates as unary_candidates
use Rattle.wgsl_shader_type.proofs.Classes.{loaded_of_bool, loaded_of_abstract_int, loaded_of_abstract_float, loaded_of_i32, loaded_of_u32, loaded_of_f32, loaded_of_f16, loaded_of_struct, loaded_of_array, loaded_of_vector, loaded_of_pointer}
use Rattle.wgsl_scalar.specs.declared.scalar.ScalarType.{ScalarType}
use Rattle.wgsl_scalar.specs.declared.scalar.ScalarType.TheVariants.{Bool as Truth, Integer}
use Rattle.wgsl_scalar.specs.declared.scalar.IntegerType.TheVariants.{AbstractInt, I32, U32}
use Rattle.wgsl_scalar.specs.Scalars.{scalar_type}
use Rattle.wgsl_scalar.specs.Scalars as scalars
use Rattle.wgsl_scalar.specs.Operators as on_scalars
use Rattle.wgsl_scalar.proofs.OperatorTypes.{constructed_to}
use Rattle.wgsl_instance.specs.declared.tree.VecInstance.{VecInstance}
use Rattle.wgsl_instance.specs.declared.tree.RefInstance.{RefInstance}
use Rattle.wgsl_instance.specs.declared.tree.Instance.{Instance, out-Instance}
use Rattle.wgsl_instance.specs.declared.tree.Instance.TheVariants as v
use Rattle.wgsl_instance.specs.declared.tree.Instance.TheOpen.{Instance-F}
use Rattle.wgsl_instance.specs.Answer.{then_with, collected}
use Rattle.wgsl_instance.specs.Typed.{type_of, type_layer, component_count, pointer_type, reference_type, IsWellFormed, HasType}
use Rattle.wgsl_instance.specs.Zero.{Made, zero_value}
use Rattle.wgsl_instance.specs.Parts.{address_layer, indirection_layer}
use Rattle.wgsl_instance.specs.Converted.{scalar_of, converted}
use Rattle.wgsl_instance.proofs.Typings.{same_ok, not_ok, nothing, inside, then_of, literal_typed, zero_has_type}
use Rattle.wgsl_instance.proofs.ConvertedTypes.{converted_has_type}
use Rattle.core_computations.specs.Places.{loaded_layer}
use Rattle.wgsl_instance_operators.specs.Operators.{as_literal, as_vector, first_type, of_pairs, with_left, with_right, by_left, by_right, by_vector, no_operands, combined, component_layer, no_operand, each_component}
use Rattle.wgsl_instance_operators.proofs.Types.{values_have_their_types as operators_have_their_types, unary_values_have_their_types}
use Rattle.wgsl_instance_operators.specs.Built.{literal_of, cast, cast_at, built_scalar}
use Rattle.core_computations.specs.Machine.{State, Outcome, Done, Failed, Deep, pure, fail, bind, next_of, loaded, back_to, scoped, of_result}
use Rattle.core_computations.specs.Loops.{Flow, Next, Broke, Goes, Returned}
use Rattle.core_programs.specs.Faults.{Fault, Operation, Deferred, OfName, Todo, ParamCount, ReturnType, NotEntrypoint}
use Rattle.core_programs.specs.Computing.{M, Checked, computed, at_once, is_deferred, known, used, step}
use Rattle.core_programs.specs.Names.{Name, Path, Symbol, is_same, Local, Has, Hidden, local_type, Env, find, built_in_type}
use Rattle.core_programs.specs.Operations.{literal_value, type_or, if_typed, unary_type, unary_value, operand, operand_type, binary_type, binary_value, decides_layer, decides, argument, construct, construct_type}
use Rattle.core_programs.specs.Meaning.{World, plain_name, name_value, name_type, needed, call_value, call_type, denoted_type, type_written, between, value, values, typed, all_typed}
use Rattle.core_programs.specs.Calls.{const_in, bound, executed, handed_back, returned, ended, written_result, body_of, call_in, result_in}
use Rattle.core_programs.specs.Programs.{Program, Known, find_known, known_value, known_type, at_exec, Calls, function_world, result_of_function, module_world, calls_inside, world}
use Rattle.core_programs.specs.Runs.{started, Handed, location_of, input_at, inputs_bound, has_stage, entered}
use Rattle.core_programs.specs.Typing.{Gives, IsProper, IsOfType, AreProper, IsProperLocal, AreProperLocals, local_types, AreWellFormed, IsProperResult, IsOfResultType, ValuesAreProper, ValuesHaveTheirTypes, ResultsHaveTheirTypes, StartedValuesAreProper, RunsHaveTheirTypes}
use Rattle.core_programs.proofs.Scalars.{scalar_of_scalar}

-- ---- how what ends well went

abbrev is_done : {A : Type 0} → Outcome Fault A → Bool
is_done (Done x s) = true
is_done (Failed f) = false
is_done Deep = false

abbrev EndsSo : {A : Type 0} → Outcome Fault A → A → State → Type 0
EndsSo o x s = o ≡ Done x s

no_fault : {A G : Type 0} (f : Fault) (x : A) (s : State) → EndsSo (Failed f) x s → G
no_fault f x s h = absurd (true≢false (sym (ap is_done h)))

not_deep : {A G : Type 0} (x : A) (s : State) → EndsSo Deep x s → G
not_deep x s h = absurd (true≢false (sym (ap is_done h)))

same_answer : {A : Type 0} (x y : A) (s t : State) → EndsSo (Done x s) y t → x ≡ y
same_answer x y s t h = cc

no_fail : {A G : Type 0} (f : Fault) (x : A) → Gives (fail f) x → G
no_fail f x g = no_fault f x g.after g.ends

pure_is : {A : Type 0} (x y : A) → Gives (pure x) y → x ≡ y
pure_is x y g = same_answer x y g.from g.after g.ends

result_is : {A : Type 0} (r : Result A Error) (s t : State) (y : A) → of_result Operation r s ≡ Done y t → r ≡ Ok y
result_is (Ok x) s t y h = ap Ok (same_answer x y s t h)
result_is (Err e) s t y h = no_fault (Operation e) y t h

computed_is : {A : Type 0} (r : Result A Error) (y : A) → Gives (computed r) y → r ≡ Ok y
computed_is r y g = result_is r g.from g.after y g.ends

at_once_is : {A : Type 0} (r : Checked A) (y : A) → Gives (at_once r) y → r ≡ Ok y
at_once_is (Ok x) y g = ap Ok (pure_is x y g)
at_once_is (Err f) y g = no_fail f y g

-- of results with another error
abbrev IsThere : {A : Type 0} → Checked A → A → Type 0
IsThere r x = r ≡ Ok x

there : {A : Type 0} (x y : A) → IsThere (Ok x) y → x ≡ y
there x y h = cc

elsewhere : {A G : Type 0} (f : Fault) (y : A) → IsThere (Err f) y → G
elsewhere f y h = absurd (true≢false (sym (ap is_ok h)))

-- what came first, and what followed
record Through {A B : Type 0} (m : M A) (f : A → M B) (y : B) : Type 0 where
  answer : A
  first : Gives m answer
  rest : Gives (f answer) y

through : {A B : Type 0} (m : M A) (f : A → M B) (y : B) → Gives (bind m f) y → Through m f y
through {A} {B} m f y g = at (m g.from) refl g.ends
  where
    at : (o : Outcome Fault A) → m g.from ≡ o → next_of o f ≡ Done y g.after → Through m f y
    at (Done x s) e h = record { answer = x; first = record { from = g.from; after = s; ends = e }; rest = record { from = s; after = g.after; ends = h } }
    at (Failed q) e h = no_fault q y g.after h
    at Deep e h = not_deep y g.after h

scoped_is : {A : Type 0} (m : M A) (y : A) → Gives (scoped m) y → Gives m y
scoped_is {A} m y g = at (m g.from) refl g.ends
  where
    at : (o : Outcome Fault A) → m g.from ≡ o → back_to (length g.from.cells) o ≡ Done y g.after → Gives m y
    at (Done x s) e h = record { from = g.from; after = s; ends = e ∙ ap (λ z. Done z s) (same_answer x y _ g.after h) }
    at (Failed q) e h = no_fault q y g.after h
    at Deep e h = not_deep y g.after h

-- ---- neither references nor pointers

no_handle_of_scalar : (t : ScalarType) → is_handle (scalar_type t) ≡ false
unfolding tree.out-ShaderType denote.Hole.Carrier.out
no_handle_of_scalar Truth = refl
no_handle_of_scalar (Integer AbstractInt) = refl
no_handle_of_scalar (Integer I32) = refl
no_handle_of_scalar (Integer U32) = refl

no_handle_of_vector : (n : ℕ) (t : ShaderType) → is_handle (type.Vec n t) ≡ false
unfolding tree.out-ShaderType denote.Hole.Carrier.out
no_handle_of_vector n t = refl

handle_of : (s : AddressSpace) (t : ShaderType) (a : AccessMode) → is_handle (type.Ref s t a) ≡ true
unfolding tree.out-ShaderType denote.Hole.Carrier.out
handle_of s t a = refl

handle_of_reference : (r : RefInstance) → is_handle (reference_type r) ≡ true
handle_of_reference r = handle_of r.space r.ty r.access

handle_of_pointer : (r : RefInstance) → is_handle (pointer_type r) ≡ true
unfolding tree.out-ShaderType denote.Hole.Carrier.out
handle_of_pointer r = refl

loads : (cells : List Instance) (x : Instance) (y : Instance-F Instance) → is_handle (type_layer y) ≡ false → loaded_layer cells x y ≡ Ok x
loads cells x (Instance-F.Ref r) h = absurd (true≢false (sym (handle_of_reference r) ∙ h))
loads cells x y h = refl

loaded_is_itself : (x : Instance) → IsProper x → (y : Instance) → Gives (loaded Operation x) y → x ≡ y
loaded_is_itself x proper y g =
    same_ok x y (sym (loads g.from.cells x (out-Instance x) proper.no_handle) ∙ result_is (loaded_layer g.from.cells x (out-Instance x)) g.from g.after y g.ends)

known_is_itself : (x y : Instance) → Gives (known x) y → x ≡ y
known_is_itself x y g = at (is_deferred x) g
  where
    at : (b : Bool) → Gives (if b then fail (Deferred (type_of x)) else pure x) y → x ≡ y
    at true h = no_fail _ y h
    at false h = pure_is x y h

-- where it is used, a proper value is itself
used_is : (x : Instance) → IsProper x → (y : Instance) → Gives (used x) y → x ≡ y
used_is x proper y g = let a = through (loaded Operation x) known y g in loaded_is_itself x proper a.answer a.first ∙ known_is_itself a.answer y a.rest

operand_is : (o : UnaryOperator) (x : Instance) → IsProper x → (y : Instance) → Gives (operand o x) y → x ≡ y
operand_is AddressOf x proper y g = pure_is x y g
operand_is Indirection x proper y g = used_is x proper y g
operand_is LogicalNegation x proper y g = used_is x proper y g
operand_is Negation x proper y g = used_is x proper y g
operand_is BitwiseComplement x proper y g = used_is x proper y g

-- a type of no reference stays where its value is read
loaded_is : (t : ShaderType) → is_handle t ≡ false → loaded_type t ≡ t
loaded_is = induction (λ t. is_handle t ≡ false → loaded_type t ≡ t) (record {
  boolean = λ h. loaded_of_bool;
  abstract_int = λ h. loaded_of_abstract_int;
  abstract_float = λ h. loaded_of_abstract_float;
  i32 = λ h. loaded_of_i32;
  u32 = λ h. loaded_of_u32;
  f32 = λ h. loaded_of_f32;
  f16 = λ h. loaded_of_f16;
  struct = λ s all h. loaded_of_struct s;
  array = λ t n _ h. loaded_of_array t n;
  vector = λ n t _ h. loaded_of_vector n t;
  pointer = λ s t a _ h. loaded_of_pointer s t a;
  reference = λ s t a _ h. absurd (true≢false (sym (handle_of s t a) ∙ h));
})

operand_type_is : (o : UnaryOperator) (t : ShaderType) → is_handle t ≡ false → operand_type o t ≡ t
operand_type_is AddressOf t h = refl
operand_type_is Indirection t h = loaded_is t h
operand_type_is LogicalNegation t h = loaded_is t h
operand_type_is Negation t h = loaded_is t h
operand_type_is BitwiseComplement t h = loaded_is t h

proper_literal : (x : LiteralInstance) → IsProper (v.Literal x)
proper_literal x = record { formed = IsWellFormed.literal x; no_handle = ap is_handle (literal_typed x) ∙ no_handle_of_scalar (scalars.type_of x) }

proper_value : (l : LiteralExpression) → IsProper (literal_value l)
proper_value (L.AbstractInt z) = proper_literal (scalar.AbstractInt z)
proper_value (L.I32 z) = proper_literal (scalar.I32 z)
proper_value (L.U32 n) = proper_literal (scalar.U32 n)

-- a well formed value of a type that is no handle
proper_of : (x : Instance) (t : ShaderType) → is_handle t ≡ false → HasType x t → IsOfType t x
proper_of x t h has = record { proper = record { formed = has.formed; no_handle = ap is_handle has.typed ∙ h }; typed = has.typed }

-- ---- operators

-- where a value is made, it is no handle
abbrev MakesNoHandle : Made → Type 0
MakesNoHandle (Ok z) = is_handle (type_of z) ≡ false
MakesNoHandle (Err e) = Unit {0}

literal_made : (r : Result LiteralInstance Error) → MakesNoHandle (as_literal r)
literal_made (Ok x) = (proper_literal x).no_handle
literal_made (Err e) = tt

vector_made : (r : Result (List LiteralInstance) Error) → MakesNoHandle (as_vector r)
vector_made (Ok xs) = ap is_handle (ap type_layer (v.outs-Vec (record { ty = first_type xs; components = xs }))) ∙ no_handle_of_vector (component_count xs) (scalar_type (first_type xs))
vector_made (Err e) = tt

made_right : (s : ShaderStage) (o : BinaryOperator) (other : Made) (x : LiteralInstance) (y : Instance-F Instance) → MakesNoHandle other → MakesNoHandle (by_right s o other x y)
made_right s o other x (Instance-F.Literal y) h = literal_made (on_scalars.binary_value s o x y)
made_right s o other x (Instance-F.Vec w) h = vector_made (collected (with_left s o x) w.components)
made_right s o other x y h = h

made_vector : (s : ShaderStage) (o : BinaryOperator) (other : Made) (a : VecInstance) (y : Instance-F Instance) → MakesNoHandle other → MakesNoHandle (by_vector s o other a y)
made_vector s o other a (Instance-F.Literal y) h = vector_made (collected (with_right s o y) a.components)
made_vector s o other a (Instance-F.Vec b) h = vector_made (of_pairs s o a.components b.components)
made_vector s o other a y h = h

made_left : (s : ShaderStage) (o : BinaryOperator) (other : Made) (y : Instance) (x : Instance-F Instance) → MakesNoHandle other → MakesNoHandle (by_left s o other y x)
made_left s o other y (Instance-F.Literal x) h = made_right s o other x (out-Instance y) h
made_left s o other y (Instance-F.Vec a) h = made_vector s o other a (out-Instance y) h
made_left s o other y x h = h

made_component : (s : ShaderStage) (o : UnaryOperator) (other : Made) (x : Instance-F Instance) → MakesNoHandle other → MakesNoHandle (component_layer s o other x)
made_component s o other (Instance-F.Literal x) h = literal_made (on_scalars.unary_value s o x)
made_component s o other (Instance-F.Vec w) h = vector_made (collected (on_scalars.unary_value s o) w.components)
made_component s o other x h = h

-- a proper value, of the type that this is
record IsTypedBy (r : Result ShaderType Error) (z : Instance) : Type 0 where
  proper : IsProper z
  typed : r ≡ Ok (type_of z)

typed_by : (c : Option ShaderType) (e : Error) (made : Made) (z : Instance) → MakesNoHandle made → ((t : ShaderType) → c ≡ Some t → made ≡ Ok z → HasType z t) → if_typed (type_or e c) made ≡ Ok z → IsTypedBy (type_or e c) z
typed_by (Some t) e made z plain has h =
    let is = has t refl h in record { proper = record { formed = is.formed; no_handle = subst MakesNoHandle h plain }; typed = ap Ok (sym is.typed) }
typed_by None e made z plain has h = not_ok e z h

binary_typed : (s : ShaderStage) (o : BinaryOperator) (x y z : Instance) → IsProper x → IsProper y → binary_value s o x y ≡ Ok z → IsTypedBy (binary_type o (type_of x) (type_of y)) z
binary_typed s o x y z p q h =
    typed_by (binary_result o (type_of x) (type_of y)) (error.Binary o (type_of x) (type_of y)) (combined s o x y) z (made_left s o (no_operands o x y) y (out-Instance x) tt)
    (λ t is made. operators_have_their_types s o x y z t p.formed q.formed (result_found o (type_of x) (type_of y) t (sym is)) made) h

component_typed : (s : ShaderStage) (o : UnaryOperator) (x z : Instance) → IsProper x → if_typed (unary_type o (type_of x)) (each_component s o x) ≡ Ok z → IsTypedBy (unary_type o (type_of x)) z
component_typed s o x z p h =
    typed_by (unary_result o (type_of x)) (unary_fault o (type_of x)) (each_component s o x) z (made_component s o (no_operand o x) (out-Instance x) tt)
    (λ t is made. unary_values_have_their_types s o x z t p.formed (unary_candidates.result_found o (type_of x) t (sym is)) made) h

no_address : {G : Type 0} (x : Instance) (y : Instance-F Instance) (z : Instance) → is_handle (type_layer y) ≡ false → address_layer x y ≡ Ok z → G
no_address x (Instance-F.Ref r) z h e = absurd (true≢false (sym (handle_of_reference r) ∙ h))
no_address x y z h e = not_ok (error.Unary AddressOf (type_of x)) z e

no_indirection : {G : Type 0} (x : Instance) (y : Instance-F Instance) (z : Instance) → is_handle (type_layer y) ≡ false → indirection_layer x y ≡ Ok z → G
no_indirection x (Instance-F.Ptr r) z h e = absurd (true≢false (sym (handle_of_pointer r.reference) ∙ h))
no_indirection x y z h e = not_ok (error.Unary Indirection (type_of x)) z e

unary_typed : (s : ShaderStage) (o : UnaryOperator) (x z : Instance) → IsProper x → unary_value s o x ≡ Ok z → IsTypedBy (unary_type o (type_of x)) z
unary_typed s AddressOf x z p h = no_address x (out-Instance x) z p.no_handle h
unary_typed s Indirection x z p h = no_indirection x (out-Instance x) z p.no_handle h
unary_typed s LogicalNegation x z p h = component_typed s LogicalNegation x z p h
unary_typed s Negation x z p h = component_typed s Negation x z p h
unary_typed s BitwiseComplement x z p h = component_typed s BitwiseComplement x z p h

-- ---- short-circuiting operators give a Bool

bool_is : (t : ShaderType) → IsTrue (is_bool t) → t ≡ type.Bool
bool_is t h = sym (roll-out-ShaderType t) ∙ at (out-ShaderType t) h
  where
    at : (y : ShaderType-F ShaderType) → IsTrue (bool_layer y) → roll-ShaderType y ≡ type.Bool
    at ShaderType-F.Bool h = type.rolls-Bool
    at y h = absurd (true≢false (sym h))

logical_gives : (o : BinaryOperator) → is_logical o ≡ true → (t : ShaderType) → IsTrue (takes o t) → gives o t ≡ type.Bool
logical_gives ShortCircuitOr l t h = bool_is t h
logical_gives ShortCircuitAnd l t h = bool_is t h
logical_gives o l t h = absurd (true≢false (sym l))

logical_alone : (o : BinaryOperator) → is_logical o ≡ true → (is_shift o ≡ false) × (is_arithmetic o ≡ false)
logical_alone ShortCircuitOr l = (refl, refl)
logical_alone ShortCircuitAnd l = (refl, refl)
logical_alone o l = absurd (true≢false (sym l))

logical_scalar : {o : BinaryOperator} {a b t : ShaderType} → ScalarSignature o a b t → is_logical o ≡ true → t ≡ type.Bool
logical_scalar (ScalarSignature.alike o t h) l = logical_gives o l t h
logical_scalar (ScalarSignature.shift o t h i) l = absurd (true≢false (sym h ∙ (logical_alone o l).0))

logical_type : {o : BinaryOperator} {a b t : ShaderType} → Signature o a b t → is_logical o ≡ true → t ≡ type.Bool
logical_type (Signature.scalars g) l = logical_scalar g l
logical_type (Signature.vectors n h g) l = absurd (true≢false (sym l ∙ h))
logical_type (Signature.vector_and_scalar {operator = o} n h g) l = absurd (true≢false (sym h ∙ (logical_alone o l).1))
logical_type (Signature.scalar_and_vector {operator = o} n h g) l = absurd (true≢false (sym h ∙ (logical_alone o l).1))

abbrev IsDecided : BinaryOperator → ShaderType → Type 0
IsDecided o t = (is_logical o ≡ true) × (t ≡ type.Bool)

decided_layer : (o : BinaryOperator) (y : Instance-F Instance) → decides_layer o y ≡ true → IsDecided o (type_layer y)
decided_layer ShortCircuitAnd (Instance-F.Literal (scalar.Bool false)) h = (refl, refl)
decided_layer ShortCircuitOr (Instance-F.Literal (scalar.Bool true)) h = (refl, refl)
decided_layer o y h = absurd (true≢false (sym h))

-- what has decided is of the operator's type
decided_type : (o : BinaryOperator) (x : Instance) → decides o x ≡ true → (u t : ShaderType) → binary_type o (type_of x) u ≡ Ok t → type_of x ≡ t
decided_type o x d u t h = at (binary_result o (type_of x) u) refl h
  where
    is : IsDecided o (type_of x)
    is = decided_layer o (out-Instance x) d

    at : (c : Option ShaderType) → binary_result o (type_of x) u ≡ c → type_or (error.Binary o (type_of x) u) c ≡ Ok t → type_of x ≡ t
    at (Some r) e h = is.1 ∙ sym (logical_type (result_found o (type_of x) u r (sym e)).candidate.here is.0) ∙ same_ok r t h
    at None e h = not_ok (error.Binary o (type_of x) u) t h

-- ---- conversions and constructors

-- the written types that are evaluated are those of scalars
abbrev IsScalarType : ShaderType → Type 0
IsScalarType t = (u : ScalarType) × (scalar_type u ≡ t)

no_handle_at : (t : ShaderType) → IsScalarType t → is_handle t ≡ false
no_handle_at t is = ap is_handle (sym is.1) ∙ no_handle_of_scalar is.0

built_in_scalar : (x : Name) (t : ShaderType) → built_in_type x ≡ Ok t → IsScalarType t
built_in_scalar x t h = at (bytes_eq x (codes "i32")) (bytes_eq x (codes "u32")) h
  where
    at : (b c : Bool) → (if b then Ok type.I32 else if c then Ok type.U32 else Err (OfName Todo x)) ≡ Ok t → IsScalarType t
    at true c h = (Integer I32, there type.I32 t h)
    at false true h = (Integer U32, there type.U32 t h)
    at false false h = elsewhere (OfName Todo x) t h

converted_proper : (x y : Instance) (t : ShaderType) → IsProper x → IsScalarType t → converted x t ≡ Ok y → IsOfType t y
converted_proper x y t p is h = proper_of y t (no_handle_at t is) (converted_has_type x y t p.formed h)

argument_proper : (t : ShaderType) (x y : Instance) → IsProper x → IsScalarType t → argument t x ≡ Ok y → IsOfType t y
argument_proper t x y p is h = at (converts (type_of x) t) h
  where
    at : (b : Bool) → (if b then converted x t else Err (error.ParamType t (type_of x))) ≡ Ok y → IsOfType t y
    at true h = converted_proper x y t p is h
    at false h = not_ok (error.ParamType t (type_of x)) y h

cast_typed : (t : ShaderType) → IsScalarType t → (x z : LiteralInstance) → cast t x ≡ Ok z → scalar_type (scalars.type_of z) ≡ t
cast_typed t is x z h =
    let at : scalar_of t ≡ Some is.0 = ap scalar_of (sym is.1) ∙ scalar_of_scalar is.0 in
    ap scalar_type (constructed_to is.0 x z (sym (ap (λ c. cast_at t c x) at) ∙ h)) ∙ is.1

built_typed : (t : ShaderType) → IsScalarType t → (x y : Instance) → built_scalar t x ≡ Ok y → IsOfType t y
built_typed t is x y h =
    let made = then_of (then_with (literal_of x) (cast t)) (λ z. Ok (v.Literal z)) y h in
    let given = then_of (literal_of x) (cast t) made.value made.was in
    subst (IsOfType t) (same_ok (v.Literal made.value) y made.gives)
    (record { proper = proper_literal made.value; typed = literal_typed made.value ∙ cast_typed t is given.value made.value given.gives })

construct_typed : (f : Name) (t : ShaderType) → IsScalarType t → (xs : List Instance) (y : Instance) → Gives (construct f t xs) y → IsOfType t y
construct_typed f t is [] y g = proper_of y t (no_handle_at t is) (zero_has_type t y (computed_is (zero_value t) y g))
construct_typed f t is (x ∷ []) y g = built_typed t is x y (computed_is (built_scalar t x) y g)
construct_typed f t is (x ∷ z ∷ xs) y g = no_fail _ y g

construct_type_is : (f : Name) (t : ShaderType) (ts : List ShaderType) (u : ShaderType) → Gives (construct_type f t ts) u → t ≡ u
construct_type_is f t [] u g = pure_is t u g
construct_type_is f t (s ∷ []) u g = pure_is t u g
construct_type_is f t (s ∷ r ∷ ts) u g = no_fail _ u g

-- ---- written types

-- the type that a plain name writes
abbrev Writes : Typ → ShaderType → Type 0
Writes (simple None x) t = built_in_type x ≡ Ok t
Writes (simple (Some path) x) t = ⊥
Writes (templated path x arguments) t = ⊥

writes : (w : World) (t : Typ) (u : ShaderType) → Gives (type_written w t) u → Writes t u
writes w (simple None x) u g = at (w.denotes x) g
  where
    at : (d : Option Symbol) → Gives (denoted_type w x d) u → built_in_type x ≡ Ok u
    at (Some s) g = no_fail _ u g
    at None g = at_once_is (built_in_type x) u g
writes w (simple (Some path) x) u g = no_fail _ u g
writes w (templated None x arguments) u g = no_fail _ u g
writes w (templated (Some path) x arguments) u g = no_fail _ u g

writes_scalar : (t : Typ) (u : ShaderType) → Writes t u → IsScalarType u
writes_scalar (simple None x) u h = built_in_scalar x u h
writes_scalar (simple (Some path) x) u h = absurd h
writes_scalar (templated path x arguments) u h = absurd h

writes_once : (t : Typ) (u r : ShaderType) → Writes t u → Writes t r → u ≡ r
writes_once (simple None x) u r h k = there u r (sym h ∙ k)
writes_once (simple (Some path) x) u r h k = absurd h
writes_once (templated path x arguments) u r h k = absurd h

-- the type of a result, if it has one
abbrev WritesResult : Option Typ → Option ShaderType → Type 0
WritesResult None None = Unit {0}
WritesResult (Some t) (Some u) = Writes t u
WritesResult t u = ⊥

writes_result : (w : World) (t : Option Typ) (u : Option ShaderType) → Gives (written_result w t) u → WritesResult t u
writes_result w None u g = subst (WritesResult None) (pure_is None u g) tt
writes_result w (Some t) u g =
    let a = through (type_written w t) (λ r. pure (Some r)) u g in
    subst (WritesResult (Some t)) (pure_is (Some a.answer) u a.rest) (writes w t a.answer a.first)

result_once : (t : Option Typ) (u r : Option ShaderType) → WritesResult t u → WritesResult t r → u ≡ r
result_once None None None h k = refl
result_once (Some t) (Some u) (Some r) h k = ap Some (writes_once t u r h k)
result_once None (Some u) r h k = absurd h
result_once None None (Some r) h k = absurd k
result_once (Some t) None r h k = absurd h
result_once (Some t) (Some u) None h k = absurd k

-- a function that is declared so
abbrev DeclaresResult : Option Decl → Option ShaderType → Type 0
DeclaresResult (Some (function attributes f parameters return_attributes type body)) t = WritesResult type t
DeclaresResult (Some (variable attributes kind x type e)) t = ⊥
DeclaresResult None t = ⊥

declares_result : (w : World) (f : Name) (d : Option Decl) (t : Option ShaderType) → Gives (result_in w f d) t → DeclaresResult d t
declares_result w f (Some (function attributes g parameters return_attributes type body)) t h = writes_result w type t h
declares_result w f (Some (variable attributes kind x type e)) t h = no_fail _ t h
declares_result w f None t h = no_fail _ t h

declared_once : (d : Option Decl) (t u : Option ShaderType) → DeclaresResult d t → DeclaresResult d u → t ≡ u
declared_once (Some (function attributes f parameters return_attributes type body)) t u h k = result_once type t u h k
declared_once (Some (variable attributes kind x type e)) t u h k = absurd h
declared_once None t u h k = absurd h

-- ---- what names stand for

-- under a test, what is found here or further on
found_here : {A : Type 0} (P : A → Type 0) (b : Bool) (x : A) (o : Option A) (y : A) → P x → (o ≡ Some y → P y) → (if b then Some x else o) ≡ Some y → P y
found_here P true x o y p further h = subst P (inside x y h) p
found_here P false x o y p further h = further h

found_local : (x : Name) (env : Env) → AreProperLocals env → (l : Local) → find x env ≡ Some l → IsProperLocal l
found_local x [] all l h = nothing l h
found_local x (b ∷ bs) all l h =
    found_here IsProperLocal (bytes_eq x b.0) b.1 (find x bs) l (All-head (λ c. IsProperLocal c.1) b bs all) (λ k. found_local x bs (All-tail (λ c. IsProperLocal c.1) b bs all) l k) h

found_known : (s : Symbol) (known : Known) → AreProper known → (x : Instance) → find_known s known ≡ Some x → IsProper x
found_known s [] all x h = nothing x h
found_known s (b ∷ bs) all x h =
    found_here IsProper (is_same s b.0) b.1 (find_known s bs) x (All-head (λ c. IsProper c.1) b bs all) (λ k. found_known s bs (All-tail (λ c. IsProper c.1) b bs all) x k) h

-- the type of the local that is found, if one is
found_type : (x : Name) (env : Env) → option_map local_type (find x env) ≡ find x (local_types env)
found_type x [] = refl
found_type x (b ∷ bs) = at (bytes_eq x b.0) (found_type x bs)
  where
    at : (c : Bool) → option_map local_type (find x bs) ≡ find x (local_types bs)
        → option_map local_type (if c then Some b.1 else find x bs) ≡ (if c then Some (local_type b.1) else find x (local_types bs))
    at true e = refl
    at false e = e

-- ---- values are proper

-- what a world's values and calls give
pub record GivesProper (w : World) (s : ShaderStage) : Type 0 where
  pub values : (q : Symbol) (x : Instance) → Gives (w.value_of s q) x → IsProper x
  pub results : (f : Symbol) (xs : List Instance) → All IsProper xs → (x : Option Instance) → Gives (w.result_of s f xs) x → IsProperResult x

module _ (w : World) (s : ShaderStage) (world : GivesProper w s) where
  needed_proper : (f : Name) (o : Option Instance) → IsProperResult o → (x : Instance) → Gives (needed f o) x → IsProper x
  needed_proper f (Some y) p x g = subst IsProper (pure_is y x g) p
  needed_proper f None p x g = no_fail _ x g

  called_proper : (f : Name) (l : Option Local) (d : Option Symbol) (xs : List Instance) → All IsProper xs → (x : Instance) → Gives (call_value w s f l d xs) x → IsProper x
  called_proper f (Some l) d xs all x g = no_fail _ x g
  called_proper f None (Some q) xs all x g =
      let a = through (w.result_of s q xs) (needed (w.printed q)) x g in
      needed_proper (w.printed q) a.answer (world.results q xs all a.answer a.first) x a.rest
  called_proper f None None xs all x g =
      let a = through (at_once (built_in_type f)) (λ t. construct f t xs) x g in
      (construct_typed f a.answer (built_in_scalar f a.answer (at_once_is (built_in_type f) a.answer a.first)) xs x a.rest).proper

  module _ (env : Env) (locals : AreProperLocals env) where
    local_proper : (x : Name) (l : Option Local) → find x env ≡ l → (d : Option Symbol) (y : Instance) → Gives (name_value w s x l d) y → IsProper y
    local_proper x (Some (Has y)) e d z g = subst IsProper (pure_is y z g) (found_local x env locals (Has y) e)
    local_proper x (Some (Hidden t)) e d z g = no_fail _ z g
    local_proper x None e (Some q) z g = world.values q z g
    local_proper x None e None z g = no_fail _ z g

    named_proper : (t : Typ) (x : Instance) → Gives (value w s env (named t)) x → IsProper x
    named_proper (simple None y) x g = local_proper y (find y env) refl (w.denotes y) x g
    named_proper (simple (Some path) y) x g = no_fail _ x g
    named_proper (templated None y arguments) x g = no_fail _ x g
    named_proper (templated (Some path) y arguments) x g = no_fail _ x g

    callee_proper : (f : Typ) (xs : List Instance) → All IsProper xs → (x : Instance)
        → Gives (bind (at_once (plain_name w env f)) (λ g. call_value w s g (find g env) (w.denotes g) xs)) x → IsProper x
    callee_proper (simple None y) xs all x g = called_proper y (find y env) (w.denotes y) xs all x g
    callee_proper (simple (Some path) y) xs all x g = no_fail _ x g
    callee_proper (templated None y arguments) xs all x g = no_fail _ x g
    callee_proper (templated (Some path) y arguments) xs all x g = no_fail _ x g

    between_proper : (o : BinaryOperator) (x : Instance) → IsProper x → (right : M Instance) → ((y : Instance) → Gives right y → IsProper y) → (z : Instance) → Gives (between s o x right) z → IsProper z
    between_proper o x p right q z g = at (decides o x) g
      where
        at : (b : Bool) → Gives (if b then pure x else bind right (λ y. computed (binary_value s o x y))) z → IsProper z
        at true g = subst IsProper (pure_is x z g) p
        at false g =
            let a = through right (λ y. computed (binary_value s o x y)) z g in
            (binary_typed s o x a.answer z p (q a.answer a.first) (computed_is (binary_value s o x a.answer) z a.rest)).proper

    used_proper : (m : M Instance) → ((y : Instance) → Gives m y → IsProper y) → (x : Instance) → Gives (bind m used) x → IsProper x
    used_proper m p x g =
        let a = through m used x g in
        let q = p a.answer a.first in
        subst IsProper (used_is a.answer q x a.rest) q

    mutual
      pub proper : (e : Exp) (x : Instance) → Gives (value w s env e) x → IsProper x
      proper (literal l) x g = subst IsProper (pure_is (literal_value l) x g) (proper_value l)
      proper (parenthesized e) x g = proper e x g
      proper (unary o e) x g =
          let a = through (bind (value w s env e) (operand o)) (λ y. computed (unary_value s o y)) x g in
          let b = through (value w s env e) (operand o) a.answer a.first in
          let p = proper e b.answer b.first in
          let q = subst IsProper (operand_is o b.answer p a.answer b.rest) p in
          (unary_typed s o a.answer x q (computed_is (unary_value s o a.answer) x a.rest)).proper
      proper (binary o a b) x g =
          let l = through (bind (value w s env a) used) (λ y. between s o y (bind (value w s env b) used)) x g in
          between_proper o l.answer (used_proper (value w s env a) (λ y h. proper a y h) l.answer l.first) (bind (value w s env b) used)
          (λ z k. used_proper (value w s env b) (λ y h. proper b y h) z k) x l.rest
      proper (call f es) x g =
          let a = through (values w s env es) (λ xs. bind (at_once (plain_name w env f)) (λ y. call_value w s y (find y env) (w.denotes y) xs)) x g in
          callee_proper f a.answer (all_proper es a.answer a.first) x a.rest
      proper (named t) x g = named_proper t x g

      pub all_proper : (es : Exps) (xs : List Instance) → Gives (values w s env es) xs → All IsProper xs
      all_proper nil xs g = subst (All IsProper) (pure_is [] xs g) (All-nil IsProper)
      all_proper (cons e es) xs g =
          let a = through (bind (value w s env e) used) (λ x. bind (values w s env es) (λ ys. pure (x ∷ ys))) xs g in
          let b = through (values w s env es) (λ ys. pure (a.answer ∷ ys)) xs a.rest in
          subst (All IsProper) (pure_is (a.answer ∷ b.answer) xs b.rest)
          (All-cons IsProper a.answer b.answer (used_proper (value w s env e) (λ y h. proper e y h) a.answer a.first) (all_proper es b.answer b.first))

    pub proper_used : (e : Exp) (x : Instance) → Gives (bind (value w s env e) used) x → IsProper x
    proper_used e x g = used_proper (value w s env e) (proper e) x g

-- ---- calls

bound_proper : (w : World) (ps : List Param) (xs : List Instance) → All IsProper xs → (env : Env) → Gives (bound w ps xs) env → AreProperLocals env
bound_proper w [] xs all env g = subst AreProperLocals (pure_is [] env g) (All-nil (λ b. IsProperLocal b.1))
bound_proper w (p ∷ ps) [] all env g = subst AreProperLocals (pure_is [] env g) (All-nil (λ b. IsProperLocal b.1))
bound_proper w (p ∷ ps) (x ∷ xs) all env g =
    let a = through (type_written w p.type) (λ t. bind (computed (argument t x)) (λ y. bind (bound w ps xs) (λ others. pure ((p.name, Has y) ∷ others)))) env g in
    let b = through (computed (argument a.answer x)) (λ y. bind (bound w ps xs) (λ others. pure ((p.name, Has y) ∷ others))) env a.rest in
    let c = through (bound w ps xs) (λ others. pure ((p.name, Has b.answer) ∷ others)) env b.rest in
    let is = argument_proper a.answer x b.answer (All-head IsProper x xs all) (writes_scalar p.type a.answer (writes w p.type a.answer a.first)) (computed_is (argument a.answer x) b.answer b.first) in
    subst AreProperLocals {x = (p.name, Has b.answer) ∷ c.answer} (pure_is ((p.name, Has b.answer) ∷ c.answer) env c.rest)
    (All-cons (λ l. IsProperLocal l.1) (p.name, Has b.answer) c.answer is.proper (bound_proper w ps xs (All-tail IsProper x xs all) c.answer c.first))

abbrev IsScalarResult : Option ShaderType → Type 0
IsScalarResult None = Unit {0}
IsScalarResult (Some t) = IsScalarType t

writes_scalar_result : (t : Option Typ) (u : Option ShaderType) → WritesResult t u → IsScalarResult u
writes_scalar_result None None h = tt
writes_scalar_result (Some t) (Some u) h = writes_scalar t u h
writes_scalar_result (Some t) None h = tt
writes_scalar_result None (Some u) h = absurd h

handed_typed : (f : Name) (t : Option ShaderType) → IsScalarResult t → (x : Option Instance) → IsProperResult x → (y : Option Instance) → Gives (handed_back f t x) y → IsOfResultType t y
handed_typed f None is None p y g = subst (IsOfResultType None) (pure_is None y g) tt
handed_typed f None is (Some x) p y g = no_fail _ y g
handed_typed f (Some t) is None p y g = no_fail _ y g
handed_typed f (Some t) is (Some x) p y g = at (converts (type_of x) t) g
  where
    at : (b : Bool) → Gives (if b then bind (computed (converted x t)) (λ z. pure (Some z)) else fail (OfName (ReturnType (type_of x) t) f)) y → IsOfResultType (Some t) y
    at true g =
        let a = through (computed (converted x t)) (λ z. pure (Some z)) y g in
        subst (IsOfResultType (Some t)) (pure_is (Some a.answer) y a.rest) (converted_proper x a.answer t p is (computed_is (converted x t) a.answer a.first))
    at false g = no_fail _ y g

-- what a call of this declaration hands back has the type that is written there
record IsResultOf (d : Option Decl) (y : Option Instance) : Type 0 where
  type : Option ShaderType
  declared : DeclaresResult d type
  typed : IsOfResultType type y

module _ (w : World) (s : ShaderStage) (world : GivesProper w s) (f : Name) where
  record IsBodys (type : Option Typ) (y : Option Instance) : Type 0 where
    is : Option ShaderType
    written : WritesResult type is
    typed : IsOfResultType is y

  -- how statements end at a type
  abbrev IsFlowOf : Option ShaderType → Flow → Type 0
  IsFlowOf t (Returned y) = IsOfResultType t y
  IsFlowOf t Next = Unit {0}
  IsFlowOf t Broke = Unit {0}
  IsFlowOf t Goes = Unit {0}

  executed_typed : (t : Option ShaderType) → IsScalarResult t → (env : Env) → AreProperLocals env → (body : List Stm) (flow : Flow) → Gives (executed w s f t env body) flow → IsFlowOf t flow
  executed_typed t is env locals [] flow g = subst (IsFlowOf t) (pure_is Next flow g) tt
  executed_typed t is env locals (returning attributes None ∷ rest) flow g =
      let a = through (handed_back f t None) (λ y. pure (Returned y)) flow g in
      subst (IsFlowOf t) (pure_is (Returned a.answer) flow a.rest) (handed_typed f t is None tt a.answer a.first)
  executed_typed t is env locals (returning attributes (Some e) ∷ rest) flow g =
      let a = through (returned w s f t env e) (λ y. pure (Returned y)) flow g in
      let b = through (bind (value w s env e) used) (λ x. handed_back f t (Some x)) a.answer a.first in
      subst (IsFlowOf t) (pure_is (Returned a.answer) flow a.rest) (handed_typed f t is (Some b.answer) (proper_used w s world env locals e b.answer b.first) a.answer b.rest)

  ended_typed : (t : Option ShaderType) → IsScalarResult t → (flow : Flow) → IsFlowOf t flow → (y : Option Instance) → Gives (ended f t flow) y → IsOfResultType t y
  ended_typed t is (Returned x) h y g = subst (IsOfResultType t) (pure_is x y g) h
  ended_typed t is Next h y g = handed_typed f t is None tt y g
  ended_typed t is Broke h y g = handed_typed f t is None tt y g
  ended_typed t is Goes h y g = handed_typed f t is None tt y g

  body_typed : (type : Option Typ) (body : List Stm) (env : Env) → AreProperLocals env → (y : Option Instance) → Gives (body_of w s f type body env) y → IsBodys type y
  body_typed type body env locals y g =
      let a = through (written_result w type) (λ t. bind (executed w s f t env body) (ended f t)) y g in
      let b = through (executed w s f a.answer env body) (ended f a.answer) y a.rest in
      let is = writes_result w type a.answer a.first in
      let scalar = writes_scalar_result type a.answer is in
      record { is = a.answer; written = is; typed = ended_typed a.answer scalar b.answer (executed_typed a.answer scalar env locals body b.answer b.first) y b.rest }

  call_typed : (d : Option Decl) (xs : List Instance) → All IsProper xs → (y : Option Instance) → Gives (call_in w s f d xs) y → IsResultOf d y
  call_typed (Some (function attributes g parameters return_attributes type body)) xs all y h = at (length xs == length parameters) h
    where
      at : (b : Bool) → Gives (if b then bind step (λ _. scoped (bind (bound w parameters xs) (body_of w s f type body.statements))) else fail (OfName (ParamCount (length parameters) (length xs)) f)) y
          → IsResultOf (Some (function attributes g parameters return_attributes type body)) y
      at true h =
          let a = through step (λ _. scoped (bind (bound w parameters xs) (body_of w s f type body.statements))) y h in
          let b = through (bound w parameters xs) (body_of w s f type body.statements) y (scoped_is (bind (bound w parameters xs) (body_of w s f type body.statements)) y a.rest) in
          let r = body_typed type body.statements b.answer (bound_proper w parameters xs all b.answer b.first) y b.rest in
          record { type = r.is; declared = r.written; typed = r.typed }
      at false h = no_fail _ y h
  call_typed (Some (variable attributes kind x type e)) xs all y h = no_fail _ y h
  call_typed None xs all y h = no_fail _ y h

-- ---- worlds of a program

called_at : (s : ShaderStage) (f : Name) (m : M (Option Instance)) (y : Option Instance) → Gives (at_exec s f m) y → Gives m y
called_at Exec f m y g = g
called_at Const f m y g = no_fail _ y g
called_at Override f m y g = no_fail _ y g

known_is : (x : Name) (o : Option Instance) (d : Option Decl) (y : Instance) → Gives (known_value x o d) y → o ≡ Some y
known_is x (Some z) d y g = ap Some (pure_is z y g)
known_is x None (Some (variable attributes kind z type e)) y g = no_fail _ y g
known_is x None (Some (function attributes f parameters return_attributes type body)) y g = no_fail _ y g
known_is x None None y g = no_fail _ y g

known_type_is : (x : Name) (o : Option Instance) (d : Option Decl) (t : ShaderType) → Gives (known_type x o d) t → option_map type_of o ≡ Some t
known_type_is x (Some z) d t g = ap Some (pure_is (type_of z) t g)
known_type_is x None (Some (variable attributes kind z type e)) t g = no_fail _ t g
known_type_is x None (Some (function attributes f parameters return_attributes type body)) t g = no_fail _ t g
known_type_is x None None t g = no_fail _ t g

proper_result : (t : Option ShaderType) (y : Option Instance) → IsOfResultType t y → IsProperResult y
proper_result (Some t) (Some x) is = is.proper
proper_result None (Some x) is = absurd is
proper_result t None is = tt

module _ (p : Program) (known : Known) (all : AreProper known) where
  abbrev AreTyped : Calls → Type 0
  AreTyped calls = (s : ShaderStage) (f : Symbol) (xs : List Instance) → All IsProper xs → (y : Option Instance) → Gives (calls s f xs) y → IsResultOf (p.item f) y

  gives_proper : (m : Path) (calls : Calls) → AreTyped calls → (s : ShaderStage) → GivesProper (module_world p known m calls) s
  gives_proper m calls are s = record {
    values = λ q x g. found_known q known all x (known_is (p.printed q) (find_known q known) (p.item q) x g);
    results = λ f xs args y g. let r = are s f xs args y (called_at s (p.printed f) (calls s f xs) y g) in proper_result r.type y r.typed;
  }

  calls_typed : (k : ℕ) → AreTyped (calls_inside p known k)
  calls_typed zero s f xs args y g = not_deep y g.after g.ends
  calls_typed (suc k) s f xs args y g =
      call_typed (module_world p known f.home (calls_inside p known k)) s (gives_proper f.home (calls_inside p known k) (calls_typed k) s) (p.printed f) (p.item f) xs args y g

  world_proper : (k : ℕ) (m : Path) (s : ShaderStage) → GivesProper (world p known k m) s
  world_proper k m s = gives_proper m (calls_inside p known k) (calls_typed k) s

  result_typed : (k : ℕ) (s : ShaderStage) (f : Symbol) (xs : List Instance) → All IsProper xs → (t : Option ShaderType) (y : Option Instance)
      → Gives (result_of_function p known f) t → Gives (calls_inside p known k s f xs) y → IsOfResultType t y
  result_typed k s f xs args t y g h =
      let r = calls_typed k s f xs args y h in
      subst (λ u. IsOfResultType u y) (declared_once (p.item f) r.type t r.declared (declares_result (function_world p known f) (p.printed f) (p.item f) t g)) r.typed

-- ---- values have their types

-- a proper value's type is the one that is read where it is used
loaded_of : (t : ShaderType) (x : Instance) → IsOfType t x → loaded_type t ≡ type_of x
loaded_of t x is = loaded_is t (ap is_handle (sym is.typed) ∙ is.proper.no_handle) ∙ sym is.typed

-- what one world types, the other one gives
pub record TypesAre (w u : World) (s : ShaderStage) : Type 0 where
  pub denotes : (x : Name) → w.denotes x ≡ u.denotes x
  pub values : (q : Symbol) (t : ShaderType) (x : Instance) → Gives (w.value_type q) t → Gives (u.value_of s q) x → type_of x ≡ t
  pub results : (f : Symbol) (xs : List Instance) → All IsProper xs → (t : Option ShaderType) (y : Option Instance)
      → Gives (w.result_type f) t → Gives (u.result_of s f xs) y → IsOfResultType t y

module _ (w u : World) (s : ShaderStage) (world : GivesProper u s) (types : TypesAre w u s) where
  needed_typed : (f g : Name) (t : Option ShaderType) (y : Option Instance) → IsOfResultType t y → (r : ShaderType) (x : Instance) → Gives (needed f t) r → Gives (needed g y) x → type_of x ≡ r
  needed_typed f g (Some t) (Some y) is r x h k = ap type_of (sym (pure_is y x k)) ∙ is.typed ∙ pure_is t r h
  needed_typed f g None y is r x h k = no_fail _ r h
  needed_typed f g (Some t) None is r x h k = no_fail _ x k

  called_typed : (f : Name) (l m : Option Local) (d : Option Symbol) (ts : List ShaderType) (xs : List Instance) → All IsProper xs → (r : ShaderType) (x : Instance)
      → Gives (call_type w f l d ts) r → Gives (call_value u s f m d xs) x → type_of x ≡ r
  called_typed f (Some l) m d ts xs all r x g h = no_fail _ r g
  called_typed f None (Some m) d ts xs all r x g h = no_fail _ x h
  called_typed f None None (Some q) ts xs all r x g h =
      let a = through (w.result_type q) (needed (w.printed q)) r g in
      let b = through (u.result_of s q xs) (needed (u.printed q)) x h in
      needed_typed (w.printed q) (u.printed q) a.answer b.answer (types.results q xs all a.answer b.answer a.first b.first) r x a.rest b.rest
  called_typed f None None None ts xs all r x g h =
      let a = through (at_once (built_in_type f)) (λ t. construct_type f t ts) r g in
      let b = through (at_once (built_in_type f)) (λ t. construct f t xs) x h in
      let is = at_once_is (built_in_type f) b.answer b.first in
      (construct_typed f b.answer (built_in_scalar f b.answer is) xs x b.rest).typed ∙ there b.answer a.answer (sym is ∙ at_once_is (built_in_type f) a.answer a.first)
      ∙ construct_type_is f a.answer ts r a.rest

  used_typed : (m : M Instance) (t : ShaderType) → ((y : Instance) → Gives m y → IsProper y) → ((y : Instance) → Gives m y → type_of y ≡ t) → (x : Instance) → Gives (bind m used) x → IsOfType t x
  used_typed m t p is x g =
      let a = through m used x g in
      let q = p a.answer a.first in
      subst (IsOfType t) (used_is a.answer q x a.rest) (record { proper = q; typed = is a.answer a.first })

  between_typed : (o : BinaryOperator) (t : ShaderType) (x : Instance) → IsOfType t x → (right : M Instance) (q : ShaderType) → ((y : Instance) → Gives right y → IsOfType q y) → (r : ShaderType)
      → binary_type o (loaded_type t) (loaded_type q) ≡ Ok r → (z : Instance) → Gives (between s o x right) z → type_of z ≡ r
  between_typed o t x is right q rights r h z g = at (decides o x) refl g
    where
      at : (b : Bool) → decides o x ≡ b → Gives (if b then pure x else bind right (λ y. computed (binary_value s o x y))) z → type_of z ≡ r
      at true d g =
          let e : binary_type o (type_of x) (loaded_type q) ≡ Ok r = sym (ap (λ a. binary_type o a (loaded_type q)) (loaded_of t x is)) ∙ h in
          ap type_of (sym (pure_is x z g)) ∙ decided_type o x d (loaded_type q) r e
      at false d g =
          let a = through right (λ y. computed (binary_value s o x y)) z g in
          let its = rights a.answer a.first in
          let both : binary_type o (loaded_type t) (loaded_type q) ≡ binary_type o (type_of x) (type_of a.answer) = (λ i. binary_type o (loaded_of t x is i) (loaded_of q a.answer its i)) in
          let made = binary_typed s o x a.answer z is.proper its.proper (computed_is (binary_value s o x a.answer) z a.rest) in
          same_ok (type_of z) r (sym made.typed ∙ sym both ∙ h)

  module _ (hidden env : Env) (locals : AreProperLocals env) (same : local_types hidden ≡ local_types env) where
    found_alike : (x : Name) → option_map local_type (find x hidden) ≡ option_map local_type (find x env)
    found_alike x = found_type x hidden ∙ ap (find x) same ∙ sym (found_type x env)

    local_typed : (x : Name) (l m : Option Local) → option_map local_type l ≡ option_map local_type m → (d : Option Symbol) (r : ShaderType) (y : Instance)
        → Gives (name_type w x l d) r → Gives (name_value u s x m d) y → type_of y ≡ r
    local_typed x (Some l) (Some (Has z)) e d r y g h = ap type_of (sym (pure_is z y h)) ∙ sym (inside (local_type l) (type_of z) e) ∙ pure_is (local_type l) r g
    local_typed x (Some l) (Some (Hidden t)) e d r y g h = no_fail _ y h
    local_typed x (Some l) None e d r y g h = nothing (local_type l) (sym e)
    local_typed x None (Some m) e d r y g h = nothing (local_type m) e
    local_typed x None None e (Some q) r y g h = types.values q r y g h
    local_typed x None None e None r y g h = no_fail _ r g

    named_typed : (t : Typ) (r : ShaderType) (y : Instance) → Gives (typed w hidden (named t)) r → Gives (value u s env (named t)) y → type_of y ≡ r
    named_typed (simple None x) r y g h =
        local_typed x (find x hidden) (find x env) (found_alike x) (u.denotes x) r y (subst (λ d. Gives (name_type w x (find x hidden) d) r) (types.denotes x) g) h
    named_typed (simple (Some path) x) r y g h = no_fail _ y h
    named_typed (templated None x arguments) r y g h = no_fail _ y h
    named_typed (templated (Some path) x arguments) r y g h = no_fail _ y h

    callee_typed : (f : Typ) (ts : List ShaderType) (xs : List Instance) → All IsProper xs → (r : ShaderType) (y : Instance)
        → Gives (bind (at_once (plain_name w hidden f)) (λ g. call_type w g (find g hidden) (w.denotes g) ts)) r
        → Gives (bind (at_once (plain_name u env f)) (λ g. call_value u s g (find g env) (u.denotes g) xs)) y → type_of y ≡ r
    callee_typed (simple None x) ts xs all r y g h =
        called_typed x (find x hidden) (find x env) (u.denotes x) ts xs all r y (subst (λ d. Gives (call_type w x (find x hidden) d ts) r) (types.denotes x) g) h
    callee_typed (simple (Some path) x) ts xs all r y g h = no_fail _ y h
    callee_typed (templated None x arguments) ts xs all r y g h = no_fail _ y h
    callee_typed (templated (Some path) x arguments) ts xs all r y g h = no_fail _ y h

    pub has_type : (e : Exp) (t : ShaderType) (x : Instance) → Gives (typed w hidden e) t → Gives (value u s env e) x → type_of x ≡ t
    has_type (literal l) t x g h = ap type_of (sym (pure_is (literal_value l) x h)) ∙ pure_is (type_of (literal_value l)) t g
    has_type (parenthesized e) t x g h = has_type e t x g h
    has_type (unary o e) t x g h =
        let a = through (typed w hidden e) (λ r. computed (unary_type o (operand_type o r))) t g in
        let b = through (bind (value u s env e) (operand o)) (λ y. computed (unary_value s o y)) x h in
        let c = through (value u s env e) (operand o) b.answer b.first in
        let p = proper u s world env locals e c.answer c.first in
        let is = operand_is o c.answer p b.answer c.rest in
        let its = has_type e a.answer c.answer a.first c.first in
        let made = unary_typed s o b.answer x (subst IsProper is p) (computed_is (unary_value s o b.answer) x b.rest) in
        let here : type_of b.answer ≡ operand_type o a.answer = ap type_of (sym is) ∙ its ∙ sym (operand_type_is o a.answer (ap is_handle (sym its) ∙ p.no_handle)) in
        same_ok (type_of x) t (sym made.typed ∙ ap (unary_type o) here ∙ computed_is (unary_type o (operand_type o a.answer)) t a.rest)
    has_type (binary o a b) t x g h =
        let l = through (typed w hidden a) (λ r. bind (typed w hidden b) (λ q. computed (binary_type o (loaded_type r) (loaded_type q)))) t g in
        let r = through (typed w hidden b) (λ q. computed (binary_type o (loaded_type l.answer) (loaded_type q))) t l.rest in
        let y = through (bind (value u s env a) used) (λ z. between s o z (bind (value u s env b) used)) x h in
        between_typed o l.answer y.answer
        (used_typed (value u s env a) l.answer (λ z k. proper u s world env locals a z k) (λ z k. has_type a l.answer z l.first k) y.answer y.first)
        (bind (value u s env b) used) r.answer
        (λ z k. used_typed (value u s env b) r.answer (λ v j. proper u s world env locals b v j) (λ v j. has_type b r.answer v r.first j) z k) t
        (computed_is (binary_type o (loaded_type l.answer) (loaded_type r.answer)) t r.rest) x y.rest
    has_type (call f es) t x g h =
        let a = through (all_typed w hidden es) (λ ts. bind (at_once (plain_name w hidden f)) (λ y. call_type w y (find y hidden) (w.denotes y) ts)) t g in
        let b = through (values u s env es) (λ xs. bind (at_once (plain_name u env f)) (λ y. call_value u s y (find y env) (u.denotes y) xs)) x h in
        callee_typed f a.answer b.answer (all_proper u s world env locals es b.answer b.first) t x a.rest b.rest
    has_type (named t) r x g h = named_typed t r x g h

-- ---- the laws

pub values_are_proper : ValuesAreProper
values_are_proper p known k m stage env e x all locals g = proper (world p known k m) stage (world_proper p known all k m stage) env locals e x g

pub values_have_their_types : ValuesHaveTheirTypes
values_have_their_types p known j k m stage hidden env e t x all locals same g h =
    let its = world_proper p known all k m stage in
    record {
      proper = proper (world p known k m) stage its env locals e x h;
      typed = has_type (world p known j m) (world p known k m) stage its types hidden env locals same e t x g h;
    }
  where
    types : TypesAre (world p known j m) (world p known k m) stage
    types = record {
      denotes = λ y. refl;
      values = λ q r y a b.
          inside (type_of y) r (sym (ap (option_map type_of) (known_is (p.printed q) (find_known q known) (p.item q) y b)) ∙ known_type_is (p.printed q) (find_known q known) (p.item q) r a);
      results = λ f xs args r y a b. result_typed p known all k stage f xs args r y a (called_at stage (p.printed f) (calls_inside p known k stage f xs) y b);
    }

pub results_have_their_types : ResultsHaveTheirTypes
results_have_their_types p known k stage f xs t x all args g h = result_typed p known all k stage f xs args t x g h

const_proper : (w : World) → GivesProper w Const → (x : Name) (d : Option Decl) (y : Instance) → Gives (const_in w x d) y → IsProper y
const_proper w world x (Some (variable attributes kind z (Some t) (Some e))) y g =
    let a = through (type_written w t) (λ u. bind (bind (value w Const [] e) used) (λ r. computed (converted r u))) y g in
    let b = through (bind (value w Const [] e) used) (λ r. computed (converted r a.answer)) y a.rest in
    let p = proper_used w Const world [] (All-nil (λ l. IsProperLocal l.1)) e b.answer b.first in
    (converted_proper b.answer y a.answer p (writes_scalar t a.answer (writes w t a.answer a.first)) (computed_is (converted b.answer a.answer) y b.rest)).proper
const_proper w world x (Some (variable attributes kind z None (Some e))) y g =
    let a = through (typed w [] e) (λ u. bind (value w Const [] e) used) y g in
    proper_used w Const world [] (All-nil (λ l. IsProperLocal l.1)) e y a.rest
const_proper w world x (Some (variable attributes kind z type None)) y g = no_fail _ y g
const_proper w world x (Some (function attributes f parameters return_attributes type body)) y g = no_fail _ y g
const_proper w world x None y g = no_fail _ y g

started_proper : (p : Program) (k : ℕ) (known : Known) → AreProper known → (order : List Symbol) (after : Known) → Gives (started p k known order) after → AreProper after
started_proper p k known all [] after g = subst AreProper (pure_is known after g) all
started_proper p k known all (s ∷ rest) after g =
    let a = through (const_in (world p known k s.home) (p.printed s) (p.item s)) (λ z. started p k (known ++ (s, z) ∷ []) rest) after g in
    let one = const_proper (world p known k s.home) (world_proper p known all k s.home Const) (p.printed s) (p.item s) a.answer a.first in
    started_proper p k (known ++ (s, a.answer) ∷ [])
    (All-append (λ b. IsProper b.1) known ((s, a.answer) ∷ []) all (All-cons (λ b. IsProper b.1) (s, a.answer) [] one (All-nil (λ b. IsProper b.1)))) rest after a.rest

pub started_values_are_proper : StartedValuesAreProper
started_values_are_proper p k known after order all g = started_proper p k known all order after g

-- ---- runs

input_proper : (x : Name) (n : ℕ) (t : ShaderType) → IsScalarType t → (o : Option Instance) → ((y : Instance) → o ≡ Some y → IsWellFormed y) → (z : Instance) → Gives (input_at x n t o) z → IsProper z
input_proper x n t is None formed z g = no_fail _ z g
input_proper x n t is (Some y) formed z g = at (same (type_of y) t) refl g
  where
    at : (b : Bool) → same (type_of y) t ≡ b → Gives (if b then pure y else fail (Operation (error.ParamType t (type_of y)))) z → IsProper z
    at true e g = subst IsProper (pure_is y z g) (record { formed = formed y refl; no_handle = ap is_handle (equal_if_same (type_of y) t e) ∙ no_handle_at t is })
    at false e g = no_fail _ z g

inputs_proper : (w : World) (handed : Handed) → AreWellFormed handed → (ps : List Param) (env : Env) → Gives (inputs_bound w handed ps) env → AreProperLocals env
inputs_proper w handed formed [] env g = subst AreProperLocals (pure_is [] env g) (All-nil (λ l. IsProperLocal l.1))
inputs_proper w handed formed (p ∷ ps) env g =
    let a = through (location_of w p.name p.attributes) (λ n. bind (type_written w p.type) (λ t. bind (input_at p.name n t (handed.inputs n)) (λ y.
    bind (inputs_bound w handed ps) (λ others. pure ((p.name, Has y) ∷ others))))) env g in
    let b = through (type_written w p.type) (λ t. bind (input_at p.name a.answer t (handed.inputs a.answer)) (λ y.
    bind (inputs_bound w handed ps) (λ others. pure ((p.name, Has y) ∷ others)))) env a.rest in
    let c = through (input_at p.name a.answer b.answer (handed.inputs a.answer)) (λ y. bind (inputs_bound w handed ps) (λ others. pure ((p.name, Has y) ∷ others))) env b.rest in
    let d = through (inputs_bound w handed ps) (λ others. pure ((p.name, Has c.answer) ∷ others)) env c.rest in
    let one = input_proper p.name a.answer b.answer (writes_scalar p.type b.answer (writes w p.type b.answer b.first)) (handed.inputs a.answer) (formed a.answer) c.answer c.first in
    subst AreProperLocals {x = (p.name, Has c.answer) ∷ d.answer} (pure_is ((p.name, Has c.answer) ∷ d.answer) env d.rest)
    (All-cons (λ l. IsProperLocal l.1) (p.name, Has c.answer) d.answer one (inputs_proper w handed formed ps d.answer d.first))

entered_typed : (w : World) → GivesProper w Exec → (f : Name) (d : Option Decl) (handed : Handed) → AreWellFormed handed → (y : Option Instance) → Gives (entered w f d handed) y → IsResultOf d y
entered_typed w world f (Some (function attributes g parameters return_attributes type body)) handed formed y h = at (has_stage attributes) h
  where
    at : (b : Bool) → Gives (if b then bind (inputs_bound w handed parameters) (body_of w Exec f type body.statements) else fail (OfName NotEntrypoint f)) y
        → IsResultOf (Some (function attributes g parameters return_attributes type body)) y
    at true h =
        let a = through (inputs_bound w handed parameters) (body_of w Exec f type body.statements) y h in
        let r = body_typed w Exec world f type body.statements a.answer (inputs_proper w handed formed parameters a.answer a.first) y a.rest in
        record { type = r.is; declared = r.written; typed = r.typed }
    at false h = no_fail _ y h
entered_typed w world f (Some (variable attributes kind x type e)) handed formed y h = no_fail _ y h
entered_typed w world f None handed formed y h = no_fail _ y h

pub runs_have_their_types : RunsHaveTheirTypes
runs_have_their_types p k order s handed known t answer formed g h =
    let a = through (started p k [] order) (λ all. entered (world p all k s.home) (p.printed s) (p.item s) handed) answer h in
    let all = started_proper p k [] (All-nil (λ b. IsProper b.1)) order a.answer a.first in
    let r = entered_typed (world p a.answer k s.home) (world_proper p a.answer all k s.home Exec) (p.printed s) (p.item s) handed formed answer a.rest in
    subst (λ u. IsOfResultType u answer) (declared_once (p.item s) r.type t r.declared (declares_result (function_world p known s) (p.printed s) (p.item s) t g)) r.typed
