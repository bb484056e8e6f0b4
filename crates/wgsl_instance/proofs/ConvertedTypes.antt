-- The types of converted values.
use Rattle.std.proofs.Common.{◌≡◌, refl, sym, ap, ◌∙◌, subst, ℕ, zero, suc, ◌≤◌, ◌==◌, Bool, true, false, cond, List, [], ◌∷◌, length, map, Option, Some, None, Result, Ok, Err, true≢false, eqb-true, arith, All}
use Rattle.std.specs.Prelude.{min, ℤ}
use Rattle.std.specs.Option.{is_some, option_eq}
use Rattle.std.specs.Result.{is_ok}
use Rattle.std.proofs.lemmas.List.Elements.{All-nil, All-cons}
use Rattle.wgsl_shader_type.specs.declared.error.Error.{Error}
use Rattle.wgsl_shader_type.specs.declared.error.Error.TheVariants.{Conversion, ConvOverflow}
use Rattle.wgsl_shader_type.specs.declared.literal.LiteralInstance.{LiteralInstance}
use Rattle.wgsl_shader_type.specs.declared.literal.LiteralInstance.TheVariants as l
use Rattle.wgsl_shader_type.specs.declared.tree.ShaderType.{ShaderType, roll-ShaderType, out-ShaderType, roll-out-ShaderType, para-roll-ShaderType}
use Rattle.wgsl_shader_type.specs.declared.tree.ShaderType.TheVariants as type
use Rattle.wgsl_shader_type.specs.declared.tree.ShaderType.TheOpen.{ShaderType-F}
use Rattle.wgsl_shader_type.specs.Alike as types
use Rattle.wgsl_shader_type.specs.Equality as types_equal
use Rattle.wgsl_shader_type.specs.Literal.{zero_fault}
use Rattle.wgsl_shader_type.specs.Rank.{rank_of, rank_layer, converts}
use Rattle.wgsl_scalar.specs.declared.scalar.ScalarType.{ScalarType}
use Rattle.wgsl_scalar.specs.declared.scalar.ScalarType.TheVariants.{Bool as Truth, Integer}
use Rattle.wgsl_scalar.specs.declared.scalar.IntegerType.{IntegerType}
use Rattle.wgsl_scalar.specs.declared.scalar.IntegerType.TheVariants.{AbstractInt, I32, U32}
use Rattle.wgsl_scalar.specs.Scalars as scalars
use Rattle.wgsl_scalar.specs.Conversions as conversions
use Rattle.wgsl_instance.specs.declared.tree.StructInstanceOf.{StructInstanceOf}
use Rattle.wgsl_instance.specs.declared.tree.ArrayInstanceOf.{ArrayInstanceOf}
use Rattle.wgsl_instance.specs.declared.tree.VecInstance.{VecInstance}
use Rattle.wgsl_instance.specs.declared.tree.Instance.{Instance, out-Instance}
use Rattle.wgsl_instance.specs.declared.tree.Instance.TheVariants as v
use Rattle.wgsl_instance.specs.declared.tree.Instance.TheOpen.{Instance-F}
use Rattle.wgsl_instance.specs.Answer.{then_with, collected}
use Rattle.wgsl_instance.specs.Typed.{literal_type, type_of, type_layer, component_count, element_count, vector_type, array_type, IsVector, IsWellFormed, AreMembers, AreElements, HasType}
use Rattle.wgsl_instance.specs.Zero.{Made}
use Rattle.wgsl_instance.specs.Converted.{scalar_of, scalar_layer, to_scalar, to_vector, converted, converted_parts, converted_or, by_types, parts_layer, mismatch, component_of, component_layer, element_of, element_layer, vector_or, array_or, vector_of, array_of, converted_array, converted_vector, converted_literal}
use Rattle.wgsl_instance.proofs.Conversions.{converted_is}
use Rattle.wgsl_instance.proofs.Typings.{IsOkOf, same_ok, not_ok, nothing, inside, Then, then_of, literal_typed}
use Rattle.wgsl_instance.specs.Laws.{ConvertedHasType}

-- ---- scalars

abstract_typed : (t : IntegerType) (z : ℤ) (x : LiteralInstance) → conversions.from_abstract t z ≡ Ok x → scalars.type_of x ≡ Integer t
abstract_typed t z x h = by_range (scalars.fits t z) h
  where
    at : (t : IntegerType) → scalars.type_of (scalars.value_at t z) ≡ Integer t
    at AbstractInt = refl
    at I32 = refl
    at U32 = refl

    by_range : (b : Bool) → cond b (Ok (scalars.value_at t z)) (Err (ConvOverflow (l.AbstractInt z) (scalars.integer_type t))) ≡ Ok x → scalars.type_of x ≡ Integer t
    by_range true h = ap scalars.type_of (sym (same_ok (scalars.value_at t z) x h)) ∙ at t
    by_range false h = not_ok (ConvOverflow (l.AbstractInt z) (scalars.integer_type t)) x h

mismatched : {G : Type 0} (s t : ShaderType) (x : LiteralInstance) → IsOkOf (Err (Conversion s t)) x → G
mismatched s t x h = not_ok (Conversion s t) x h

integer_typed : (t : IntegerType) (y x : LiteralInstance) → conversions.to_integer t y ≡ Ok x → scalars.type_of x ≡ Integer t
integer_typed t (l.AbstractInt z) x h = abstract_typed t z x h
integer_typed I32 (l.I32 z) x h = ap scalars.type_of (sym (same_ok (l.I32 z) x h))
integer_typed U32 (l.U32 n) x h = ap scalars.type_of (sym (same_ok (l.U32 n) x h))
integer_typed AbstractInt (l.Bool b) x h = mismatched (scalars.scalar_type Truth) (scalars.integer_type AbstractInt) x h
integer_typed AbstractInt (l.I32 z) x h = mismatched (scalars.scalar_type (Integer I32)) (scalars.integer_type AbstractInt) x h
integer_typed AbstractInt (l.U32 z) x h = mismatched (scalars.scalar_type (Integer U32)) (scalars.integer_type AbstractInt) x h
integer_typed I32 (l.Bool b) x h = mismatched (scalars.scalar_type Truth) (scalars.integer_type I32) x h
integer_typed I32 (l.U32 z) x h = mismatched (scalars.scalar_type (Integer U32)) (scalars.integer_type I32) x h
integer_typed U32 (l.Bool b) x h = mismatched (scalars.scalar_type Truth) (scalars.integer_type U32) x h
integer_typed U32 (l.I32 z) x h = mismatched (scalars.scalar_type (Integer I32)) (scalars.integer_type U32) x h

scalar_typed : (t : ScalarType) (y x : LiteralInstance) → conversions.converted t y ≡ Ok x → scalars.type_of x ≡ t
scalar_typed Truth (l.Bool b) x h = ap scalars.type_of (sym (same_ok (l.Bool b) x h))
scalar_typed (Integer t) y x h = integer_typed t y x h
scalar_typed Truth (l.AbstractInt z) x h = mismatched (scalars.scalar_type (Integer AbstractInt)) (scalars.scalar_type Truth) x h
scalar_typed Truth (l.I32 z) x h = mismatched (scalars.scalar_type (Integer I32)) (scalars.scalar_type Truth) x h
scalar_typed Truth (l.U32 z) x h = mismatched (scalars.scalar_type (Integer U32)) (scalars.scalar_type Truth) x h

-- the type that a scalar type is of
scalar_is : (t : ShaderType) (s : ScalarType) → scalar_of t ≡ Some s → scalars.scalar_type s ≡ t
scalar_is t s h = by_layer (out-ShaderType t) h ∙ roll-out-ShaderType t
  where
    at : (r : ScalarType) (z : ShaderType-F ShaderType) → scalars.scalar_type r ≡ roll-ShaderType z → Some r ≡ Some s → scalars.scalar_type s ≡ roll-ShaderType z
    at r z e h = ap scalars.scalar_type (sym (inside r s h)) ∙ e

    by_layer : (z : ShaderType-F ShaderType) → scalar_layer z ≡ Some s → scalars.scalar_type s ≡ roll-ShaderType z
    by_layer ShaderType-F.Bool h = at Truth ShaderType-F.Bool (sym type.rolls-Bool) h
    by_layer ShaderType-F.AbstractInt h = at (Integer AbstractInt) ShaderType-F.AbstractInt (sym type.rolls-AbstractInt) h
    by_layer ShaderType-F.I32 h = at (Integer I32) ShaderType-F.I32 (sym type.rolls-I32) h
    by_layer ShaderType-F.U32 h = at (Integer U32) ShaderType-F.U32 (sym type.rolls-U32) h
    by_layer z h = nothing s h

literal_converted : (t : ShaderType) (y x : LiteralInstance) (o : Option ScalarType) → scalar_of t ≡ o → to_scalar t o y ≡ Ok x → literal_type x ≡ t
literal_converted t y x (Some s) e h = ap scalars.scalar_type (scalar_typed s y x h) ∙ scalar_is t s e
literal_converted t y x None e h = not_ok (zero_fault t) x h

-- ---- vectors

longer : {A B : Type 0} (y : A) (x : B) (ys : List A) (xs : List B) → length ys ≡ length xs → length (y ∷ ys) ≡ length (x ∷ xs)
longer y x ys xs h = grind arith

components_typed : (s : ScalarType) (xs ys : List LiteralInstance) → collected (conversions.converted s) xs ≡ Ok ys → (length ys ≡ length xs) × All (λ y. scalars.type_of y ≡ s) ys
components_typed s [] ys h = subst (λ zs. (length zs ≡ 0) × All (λ y. scalars.type_of y ≡ s) zs) (same_ok [] ys h) (refl, All-nil (λ y. scalars.type_of y ≡ s))
components_typed s (x ∷ xs) ys h =
    let one = then_of (conversions.converted s x) (λ y. then_with (collected (conversions.converted s) xs) (λ zs. Ok (y ∷ zs))) ys h in
    let others = then_of (collected (conversions.converted s) xs) (λ zs. Ok (one.value ∷ zs)) ys one.gives in
    let rest = components_typed s xs others.value others.was in
    subst (λ zs. (length zs ≡ length (x ∷ xs)) × All (λ y. scalars.type_of y ≡ s) zs) (same_ok (one.value ∷ others.value) ys others.gives)
    (longer one.value x others.value xs rest.0, All-cons (λ y. scalars.type_of y ≡ s) one.value others.value (scalar_typed s x one.value one.was) rest.1)

-- what a type converts to, by its shape
vectors_agree : (n m : ℕ) (a b t : ShaderType) → out-ShaderType t ≡ ShaderType-F.Vec m b → converts (type.Vec n a) t ≡ true → n ≡ m
vectors_agree n m a b t e h = eqb-true n m (by_test (n == m) (sym (ap is_some ranked) ∙ h))
  where
    ranked : rank_of (type.Vec n a) t ≡ cond (n == m) (rank_of a b) None
    ranked = ap (λ f. f t) (ap rank_of (sym (type.rolls-Vec n a))
        ∙ para-roll-ShaderType (ShaderType → Option ℕ) (λ x t. rank_layer (λ pair y. types.same pair.0 y) (λ pair y. pair.1 y) x (out-ShaderType t)) (ShaderType-F.Vec n a))
        ∙ ap (rank_layer (λ (pair : ShaderType × (ShaderType → Option ℕ)) y. types.same pair.0 y) (λ pair y. pair.1 y) (ShaderType-F.Vec n (a, rank_of a))) e

    by_test : (test : Bool) → is_some (cond test (rank_of a b) None) ≡ true → test ≡ true
    by_test true h = refl
    by_test false h = absurd (true≢false (sym h))

arrays_agree : (n m : Option ℕ) (a b t : ShaderType) → out-ShaderType t ≡ ShaderType-F.Array b m → converts (type.Array a n) t ≡ true → n ≡ m
arrays_agree n m a b t e h = types_equal.option_true n m (by_test (option_eq ◌==◌ n m) (sym (ap is_some ranked) ∙ h))
  where
    ranked : rank_of (type.Array a n) t ≡ cond (option_eq ◌==◌ n m) (rank_of a b) None
    ranked = ap (λ f. f t) (ap rank_of (sym (type.rolls-Array a n))
        ∙ para-roll-ShaderType (ShaderType → Option ℕ) (λ x t. rank_layer (λ pair y. types.same pair.0 y) (λ pair y. pair.1 y) x (out-ShaderType t)) (ShaderType-F.Array a n))
        ∙ ap (rank_layer (λ (pair : ShaderType × (ShaderType → Option ℕ)) y. types.same pair.0 y) (λ pair y. pair.1 y) (ShaderType-F.Array (a, rank_of a) n)) e

    by_test : (test : Bool) → is_some (cond test (rank_of a b) None) ≡ true → test ≡ true
    by_test true h = refl
    by_test false h = absurd (true≢false (sym h))

record InVector (t c : ShaderType) : Type 0 where
  count : ℕ
  out : out-ShaderType t ≡ ShaderType-F.Vec count c

in_vector : (t c : ShaderType) → component_of t ≡ Some c → InVector t c
in_vector t c h = by_layer (out-ShaderType t) refl h
  where
    by_layer : (z : ShaderType-F ShaderType) → out-ShaderType t ≡ z → component_layer z ≡ Some c → InVector t c
    by_layer (ShaderType-F.Vec m b) e h = record { count = m; out = e ∙ ap (ShaderType-F.Vec m) (inside b c h) }
    by_layer z e h = nothing c h

record InArray (t c : ShaderType) : Type 0 where
  count : Option ℕ
  out : out-ShaderType t ≡ ShaderType-F.Array c count

in_array : (t c : ShaderType) → element_of t ≡ Some c → InArray t c
in_array t c h = by_layer (out-ShaderType t) refl h
  where
    by_layer : (z : ShaderType-F ShaderType) → out-ShaderType t ≡ z → element_layer z ≡ Some c → InArray t c
    by_layer (ShaderType-F.Array b m) e h = record { count = m; out = e ∙ ap (λ u. ShaderType-F.Array u m) (inside b c h) }
    by_layer z e h = nothing c h

-- ---- the parts of a value

other_than : {G : Type 0} (x y : Instance) (t : ShaderType) → mismatch x t ≡ Ok y → G
other_than x y t h = not_ok (Conversion (type_of x) t) y h

abbrev parts_at : Instance → ShaderType → Instance-F Instance → Made
parts_at x t z = parts_layer converted (mismatch x t) t z

-- a converted value is the value itself, or is made of its parts
either : (x y : Instance) (t : ShaderType) → IsWellFormed x → (converts (type_of x) t ≡ true → converted_parts x t ≡ Ok y → HasType y t) → converted x t ≡ Ok y → HasType y t
either x y t formed parts h = by_test (types.same (type_of x) t) (converts (type_of x) t) refl refl (sym (converted_is x t) ∙ h)
  where
    by_test : (a b : Bool) → types.same (type_of x) t ≡ a → converts (type_of x) t ≡ b → by_types a b (Ok x) (converted_parts x t) (mismatch x t) ≡ Ok y → HasType y t
    by_test true b e f h = subst (λ z. HasType z t) (same_ok x y h) (record { formed = formed; typed = types_equal.equal_if_same (type_of x) t e })
    by_test false true e f h = parts f h
    by_test false false e f h = other_than x y t h

literal_parts : (z : LiteralInstance) (y : Instance) (t : ShaderType) → converted_parts (v.Literal z) t ≡ Ok y → HasType y t
literal_parts z y t h =
    let s = then_of (converted_literal t z) (λ c. Ok (v.Literal c)) y (sym (ap (parts_at (v.Literal z) t) (v.outs-Literal z)) ∙ h) in
    subst (λ w. HasType w t) (same_ok (v.Literal s.value) y s.gives) (record {
      formed = IsWellFormed.literal s.value;
      typed = literal_typed s.value ∙ literal_converted t z s.value (scalar_of t) refl s.was;
    })

vector_parts : (w : VecInstance) (y : Instance) (t : ShaderType) → IsVector w → converts (type_of (v.Vec w)) t ≡ true → converted_parts (v.Vec w) t ≡ Ok y → HasType y t
vector_parts w y t is converting h = by_component (component_of t) refl (sym (ap (parts_at (v.Vec w) t) (v.outs-Vec w)) ∙ h)
  where
    made : (c : ShaderType) → component_of t ≡ Some c → (s : ScalarType) → scalar_of c ≡ Some s → (ys : List LiteralInstance) → collected (conversions.converted s) w.components ≡ Ok ys → HasType (vector_of s ys) t
    made c e s f ys was =
        let parts = components_typed s w.components ys was in
        let at = in_vector t c e in
        let agree = vectors_agree (component_count w.components) at.count (scalars.scalar_type w.ty) c t at.out (ap (λ u. converts u t) (sym (ap type_layer (v.outs-Vec w))) ∙ converting) in
        let new : VecInstance = record { ty = s; components = ys } in
        record {
          formed = IsWellFormed.vector new (record { two = subst (λ n. 2 ≤ n) (sym parts.0) is.two; four = subst (λ n. n ≤ 4) (sym parts.0) is.four; alike = parts.1 });
          typed = ap type_layer (v.outs-Vec new) ∙ (λ k. type.Vec ((ap (λ n. min n 255) parts.0 ∙ agree) k) (scalar_is c s f k))
              ∙ sym (type.rolls-Vec at.count c) ∙ ap roll-ShaderType (sym at.out) ∙ roll-out-ShaderType t;
        }

    by_scalar : (c : ShaderType) → component_of t ≡ Some c → (o : Option ScalarType) → scalar_of c ≡ o → to_vector c o w.components ≡ Ok y → HasType y t
    by_scalar c e (Some s) f h =
        let r = then_of (collected (conversions.converted s) w.components) (λ ys. Ok (vector_of s ys)) y h in
        subst (λ z. HasType z t) (same_ok (vector_of s r.value) y r.gives) (made c e s f r.value r.was)
    by_scalar c e None f h = not_ok (zero_fault c) y h

    by_component : (o : Option ShaderType) → component_of t ≡ o → vector_or (mismatch (v.Vec w) t) w o ≡ Ok y → HasType y t
    by_component (Some c) e h = by_scalar c e (scalar_of c) refl h
    by_component None e h = other_than (v.Vec w) y t h

-- an array, where what is shown of its elements is given
array_parts : (a : ArrayInstanceOf Instance) (y : Instance) (t : ShaderType)
    → ((e : ShaderType) (ys : List Instance) → collected (λ x. converted x e) a.components ≡ Ok ys → AreElements e ys × (length ys ≡ length a.components))
    → converts (type_of (v.Array a)) t ≡ true → converted_parts (v.Array a) t ≡ Ok y → HasType y t
array_parts a y t shown converting h = by_element (element_of t) refl (sym (ap (parts_at (v.Array a) t) (v.outs-Array a)) ∙ h)
  where
    by_element : (o : Option ShaderType) → element_of t ≡ o → array_or converted (mismatch (v.Array a) t) a o ≡ Ok y → HasType y t
    by_element (Some e) f h =
        let r = then_of (collected (λ x. converted x e) a.components) (λ xs. Ok (array_of a.runtime_sized e xs)) y h in
        let parts = shown e r.value r.was in
        let at = in_array t e f in
        let agree = arrays_agree (element_count a.runtime_sized (length a.components)) at.count a.element e t at.out (ap (λ u. converts u t) (sym (ap type_layer (v.outs-Array a))) ∙ converting) in
        let new : ArrayInstanceOf Instance = record { element = e; components = r.value; runtime_sized = a.runtime_sized } in
        subst (λ z. HasType z t) (same_ok (v.Array new) y r.gives) (record {
          formed = IsWellFormed.array new parts.0;
          typed = ap type_layer (v.outs-Array new) ∙ ap (λ n. type.Array e (element_count a.runtime_sized n)) parts.1 ∙ ap (type.Array e) agree
              ∙ sym (type.rolls-Array e at.count) ∙ ap roll-ShaderType (sym at.out) ∙ roll-out-ShaderType t;
        })
    by_element None f h = other_than (v.Array a) y t h

mutual
  typed : (x : Instance) → IsWellFormed x → (y : Instance) (t : ShaderType) → converted x t ≡ Ok y → HasType y t
  typed x (IsWellFormed.literal z) y t h = either (v.Literal z) y t (IsWellFormed.literal z) (λ _ p. literal_parts z y t p) h
  typed x (IsWellFormed.struct s f) y t h = either (v.Struct s) y t (IsWellFormed.struct s f) (λ _ p. other_than (v.Struct s) y t (sym (ap (parts_at (v.Struct s) t) (v.outs-Struct s)) ∙ p)) h
  typed x (IsWellFormed.array a f) y t h = either (v.Array a) y t (IsWellFormed.array a f) (λ c p. array_parts a y t (λ e ys was. all_typed a.element a.components f e ys was) c p) h
  typed x (IsWellFormed.vector w f) y t h = either (v.Vec w) y t (IsWellFormed.vector w f) (λ c p. vector_parts w y t f c p) h
  typed x (IsWellFormed.pointer z) y t h = either (v.Ptr z) y t (IsWellFormed.pointer z) (λ _ p. other_than (v.Ptr z) y t (sym (ap (parts_at (v.Ptr z) t) (v.outs-Ptr z)) ∙ p)) h
  typed x (IsWellFormed.reference z) y t h = either (v.Ref z) y t (IsWellFormed.reference z) (λ _ p. other_than (v.Ref z) y t (sym (ap (parts_at (v.Ref z) t) (v.outs-Ref z)) ∙ p)) h
  typed x (IsWellFormed.deferred z) y t h = either (v.Deferred z) y t (IsWellFormed.deferred z) (λ _ p. other_than (v.Deferred z) y t (sym (ap (parts_at (v.Deferred z) t) (v.outs-Deferred z)) ∙ p)) h

  all_typed : (u : ShaderType) (xs : List Instance) → AreElements u xs → (e : ShaderType) (ys : List Instance) → collected (λ x. converted x e) xs ≡ Ok ys → AreElements e ys × (length ys ≡ length xs)
  all_typed u xs AreElements.no_elements e ys h = subst (λ zs. AreElements e zs × (length zs ≡ 0)) (same_ok [] ys h) (AreElements.no_elements, refl)
  all_typed u xs (AreElements.element {x = x} {xs = rest} f g fs) e ys h =
      let one = then_of (converted x e) (λ y. then_with (collected (λ x. converted x e) rest) (λ zs. Ok (y ∷ zs))) ys h in
      let others = then_of (collected (λ x. converted x e) rest) (λ zs. Ok (one.value ∷ zs)) ys one.gives in
      let had = typed x f one.value e one.was in
      let more = all_typed u rest fs e others.value others.was in
      subst (λ zs. AreElements e zs × (length zs ≡ length (x ∷ rest))) (same_ok (one.value ∷ others.value) ys others.gives)
      (AreElements.element had.formed had.typed more.0, longer one.value x others.value rest more.1)

pub converted_has_type : ConvertedHasType
converted_has_type x y t formed h = typed x formed y t h
