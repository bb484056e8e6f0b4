-- What constructors build has the type that they make.
use Rattle.std.proofs.Common.{◌≡◌, refl, sym, ap, ◌∙◌, subst, ℕ, zero, suc, ◌+◌, ◌≤◌, ◌==◌, ◌&&◌, ◌||◌, Bool, true, false, cond, List, [], ◌∷◌, ◌++◌, length, map, replicate, Option, Some, None, Result, Ok, Err, ◌⊎◌, inl, inr, true≢false, eqb-true, arith, All}
use Rattle.std.specs.Prelude.{min, sum, nat_lt, IsTrue}
use Rattle.std.specs.Cmp.{first_so, second_so}
use Rattle.std.proofs.lemmas.List.{length-append, length-replicate}
use Rattle.std.proofs.lemmas.List.Sums.{sum-map, sum_by-cons}
use Rattle.std.specs.List.{sum_by}
use Rattle.std.proofs.lemmas.List.Elements.{All-nil, All-cons, All-head, All-tail, All-replicate}
use Rattle.wgsl_shader_type.specs.declared.error.Error.{Error}
use Rattle.wgsl_shader_type.specs.declared.error.Error.TheVariants.{NotScalar}
use Rattle.wgsl_shader_type.specs.declared.literal.LiteralInstance.{LiteralInstance}
use Rattle.wgsl_shader_type.specs.declared.tree.ShaderType.{ShaderType, roll-ShaderType, out-ShaderType, roll-out-ShaderType}
use Rattle.wgsl_shader_type.specs.declared.tree.ShaderType as tree
use Rattle.wgsl_shader_type.specs.declared.tree.ShaderType.TheVariants as type
use Rattle.wgsl_shader_type.specs.declared.tree.ShaderType.TheOpen.{ShaderType-F}
use Rattle.wgsl_shader_type.specs.Class.{is_scalar}
use Rattle.wgsl_shader_type.specs.Literal.{zero_fault}
use Rattle.wgsl_scalar.specs.declared.scalar.ScalarType.{ScalarType}
use Rattle.wgsl_scalar.specs.declared.scalar.ScalarType.TheVariants.{Bool as Truth, Integer}
use Rattle.wgsl_scalar.specs.declared.scalar.IntegerType.TheVariants.{AbstractInt, I32, U32}
use Rattle.wgsl_scalar.specs.Scalars as scalars
use Rattle.wgsl_scalar.specs.Conversions as conversions
use Rattle.wgsl_scalar.proofs.OperatorTypes.{constructed_to}
use Rattle.wgsl_types.specs.declared.template.VecTemplate.{VecTemplate}
use Rattle.wgsl_types.specs.declared.template.ArrayTemplate.{ArrayTemplate}
use Rattle.wgsl_types.specs.declared.constructor.Constructor.{Constructor}
use Rattle.wgsl_types.specs.declared.constructor.Constructor.TheVariants as constructor
use Rattle.wgsl_types.specs.Constructor.{count_of, fills, are_parts, takes_one, array_length, IsComponent, IsMadeBy}
use Rattle.wgsl_instance.specs.declared.tree.ArrayInstanceOf.{ArrayInstanceOf}
use Rattle.wgsl_instance.specs.declared.tree.VecInstance.{VecInstance}
use Rattle.wgsl_instance.specs.declared.tree.Instance.{Instance, out-Instance}
use Rattle.wgsl_instance.specs.declared.tree.Instance.TheVariants as v
use Rattle.wgsl_instance.specs.Answer.{then_with, collected}
use Rattle.wgsl_instance.specs.Typed.{literal_type, type_of, type_layer, vector_type, component_count, IsVector, IsWellFormed, AreElements, HasType}
use Rattle.wgsl_instance.specs.Converted.{scalar_of, scalar_layer, converted, vector_of, array_of}
use Rattle.wgsl_instance.proofs.Typings.{same_ok, not_ok, nothing, inside, then_of, literal_typed, zero_has_type}
use Rattle.wgsl_instance.proofs.ConvertedTypes.{converted_has_type}
use Rattle.wgsl_instance_operators.specs.Built.{literal_of, cast, cast_at, built_scalar, parts_layer, parts_of, all_parts, spread, vector_at, types_of, built_vector, built_array, built_layer, built, no_scalar}
use Rattle.wgsl_instance_operators.specs.ConstructorsLaws.{BuiltHasType, IsNamed}

abbrev at : ScalarType → ShaderType
at t = scalars.scalar_type t

-- the type that a scalar type is of
scalar_at : (t : ShaderType) (s : ScalarType) → scalar_of t ≡ Some s → at s ≡ t
scalar_at t s h = by_layer (out-ShaderType t) h ∙ roll-out-ShaderType t
  where
    here : (r : ScalarType) (z : ShaderType-F ShaderType) → at r ≡ roll-ShaderType z → Some r ≡ Some s → at s ≡ roll-ShaderType z
    here r z e h = ap at (sym (inside r s h)) ∙ e

    by_layer : (z : ShaderType-F ShaderType) → scalar_layer z ≡ Some s → at s ≡ roll-ShaderType z
    by_layer ShaderType-F.Bool h = here Truth ShaderType-F.Bool (sym type.rolls-Bool) h
    by_layer ShaderType-F.AbstractInt h = here (Integer AbstractInt) ShaderType-F.AbstractInt (sym type.rolls-AbstractInt) h
    by_layer ShaderType-F.I32 h = here (Integer I32) ShaderType-F.I32 (sym type.rolls-I32) h
    by_layer ShaderType-F.U32 h = here (Integer U32) ShaderType-F.U32 (sym type.rolls-U32) h
    by_layer z h = nothing s h

-- ---- scalars

cast_typed : (t : ShaderType) (z w : LiteralInstance) → cast t z ≡ Ok w → literal_type w ≡ t
cast_typed t z w h = by_scalar (scalar_of t) refl h
  where
    by_scalar : (o : Option ScalarType) → scalar_of t ≡ o → cast_at t o z ≡ Ok w → literal_type w ≡ t
    by_scalar (Some s) e h = ap at (constructed_to s z w h) ∙ scalar_at t s e
    by_scalar None e h = not_ok (zero_fault t) w h

scalar_typed : (t : ShaderType) (y x : Instance) → built_scalar t y ≡ Ok x → HasType x t
scalar_typed t y x h =
    let made = then_of (then_with (literal_of y) (cast t)) (λ z. Ok (v.Literal z)) x h in
    let given = then_of (literal_of y) (cast t) made.value made.was in
    subst (λ z. HasType z t) (same_ok (v.Literal made.value) x made.gives)
    (record { formed = IsWellFormed.literal made.value; typed = literal_typed made.value ∙ cast_typed t given.value made.value given.gives })

no_vector : (n : ℕ) (c : ShaderType) → is_scalar (type.Vec n c) ≡ false
unfolding tree.out-ShaderType denote.Hole.Carrier.out
no_vector n c = refl

no_array : (n : Option ℕ) (e : ShaderType) → is_scalar (type.Array e n) ≡ false
unfolding tree.out-ShaderType denote.Hole.Carrier.out
no_array n e = refl

never : {G : Type 0} (t u : ShaderType) → t ≡ u → is_scalar t ≡ true → is_scalar u ≡ false → G
never t u e is not_so = absurd (true≢false (sym is ∙ ap is_scalar e ∙ not_so))

one_scalar : (t : ShaderType) (y x : Instance) → is_scalar t ≡ true → built t (y ∷ []) ≡ Ok x → HasType x t
one_scalar t y x scalar h = by_layer (out-ShaderType t) refl h
  where
    by_layer : (z : ShaderType-F ShaderType) → out-ShaderType t ≡ z → built_layer t y (y ∷ []) z ≡ Ok x → HasType x t
    by_layer (ShaderType-F.Vec n c) e h = never t (type.Vec n c) (sym (roll-out-ShaderType t) ∙ ap roll-ShaderType e ∙ type.rolls-Vec n c) scalar (no_vector n c)
    by_layer (ShaderType-F.Array c n) e h = never t (type.Array c n) (sym (roll-out-ShaderType t) ∙ ap roll-ShaderType e ∙ type.rolls-Array c n) scalar (no_array n c)
    by_layer z e h = scalar_typed t y x h

scalars_built : (t : ShaderType) (args : List Instance) (x : Instance) → is_scalar t ≡ true → takes_one (types_of args) ≡ true → built t args ≡ Ok x → HasType x t
scalars_built t [] x scalar takes h = zero_has_type t x h
scalars_built t (y ∷ []) x scalar takes h = one_scalar t y x scalar h
scalars_built t (y ∷ z ∷ args) x scalar takes h = absurd (true≢false (sym takes))

-- ---- vectors

one_part : (t : ScalarType) → count_of (at t) ≡ 1
unfolding tree.out-ShaderType denote.Hole.Carrier.out
one_part Truth = refl
one_part (Integer AbstractInt) = refl
one_part (Integer I32) = refl
one_part (Integer U32) = refl

vector_count : (n : ℕ) (c : ShaderType) → count_of (type.Vec n c) ≡ n
unfolding tree.out-ShaderType denote.Hole.Carrier.out
vector_count n c = refl

short : (n : ℕ) → n ≤ 4 → n ≡ min n 255
short n p = search arith

abbrev Counted : Instance → List LiteralInstance → Type 0
Counted x parts = length parts ≡ count_of (type_of x)

refused : (x : Instance) (parts : List LiteralInstance) → parts_of x ≡ Err (no_scalar x) → parts_of x ≡ Ok parts → Counted x parts
refused x parts e h = not_ok (no_scalar x) parts (sym e ∙ h)

part_count : (x : Instance) → IsWellFormed x → (parts : List LiteralInstance) → parts_of x ≡ Ok parts → Counted x parts
part_count x (IsWellFormed.literal a) parts h =
    ap length (sym (same_ok (a ∷ []) parts (sym (λ k. parts_layer (v.Literal a) (v.outs-Literal a k)) ∙ h))) ∙ sym (ap count_of (literal_typed a) ∙ one_part (scalars.type_of a))
part_count x (IsWellFormed.vector w f) parts h =
    ap length (sym (same_ok w.components parts (sym (λ k. parts_layer (v.Vec w) (v.outs-Vec w k)) ∙ h)))
    ∙ short (length w.components) f.four ∙ sym (ap count_of (ap type_layer (v.outs-Vec w)) ∙ vector_count (component_count w.components) (at w.ty))
part_count x (IsWellFormed.struct a f) parts h = refused (v.Struct a) parts (λ k. parts_layer (v.Struct a) (v.outs-Struct a k)) h
part_count x (IsWellFormed.array a f) parts h = refused (v.Array a) parts (λ k. parts_layer (v.Array a) (v.outs-Array a k)) h
part_count x (IsWellFormed.pointer a) parts h = refused (v.Ptr a) parts (λ k. parts_layer (v.Ptr a) (v.outs-Ptr a k)) h
part_count x (IsWellFormed.reference a) parts h = refused (v.Ref a) parts (λ k. parts_layer (v.Ref a) (v.outs-Ref a k)) h
part_count x (IsWellFormed.deferred a) parts h = refused (v.Deferred a) parts (λ k. parts_layer (v.Deferred a) (v.outs-Deferred a k)) h

all_counted : (args : List Instance) → All IsWellFormed args → (parts : List LiteralInstance) → all_parts args ≡ Ok parts → length parts ≡ sum_by count_of (types_of args)
all_counted [] all parts h = ap length (sym (same_ok [] parts h))
all_counted (x ∷ args) all parts h =
    let first = then_of (parts_of x) (λ p. then_with (all_parts args) (λ others. Ok (p ++ others))) parts h in
    let others = then_of (all_parts args) (λ rest. Ok (first.value ++ rest)) parts first.gives in
    let rest = all_counted args (All-tail IsWellFormed x args all) others.value others.was in
    ap length (sym (same_ok (first.value ++ others.value) parts others.gives)) ∙ length-append first.value others.value
    ∙ (λ k. part_count x (All-head IsWellFormed x args all) first.value first.was k + rest k)
    ∙ sym (sum_by-cons count_of (type_of x) (types_of args))

either : (a b : Bool) → (a || b) ≡ true → (a ≡ true) ⊎ (b ≡ true)
either true b h = inl refl
either false b h = inr h

plus_none : (n : ℕ) → n + 0 ≡ n
plus_none n = search arith

-- arguments that fill a vector bring one component, or as many as it has
filled : (n : ℕ) (ts : List ShaderType) → fills n ts ≡ true → (sum_by count_of ts ≡ 1) ⊎ (sum_by count_of ts ≡ n)
filled n [] h = absurd (true≢false (sym h))
filled n (t ∷ []) h = by (either (count_of t == 1) (count_of t == n) h)
  where
    by : ((count_of t == 1) ≡ true) ⊎ ((count_of t == n) ≡ true) → (sum_by count_of (t ∷ []) ≡ 1) ⊎ (sum_by count_of (t ∷ []) ≡ n)
    by (inl e) = inl (sum_by-cons count_of t [] ∙ plus_none (count_of t) ∙ eqb-true (count_of t) 1 e)
    by (inr e) = inr (sum_by-cons count_of t [] ∙ plus_none (count_of t) ∙ eqb-true (count_of t) n e)
filled n (t ∷ u ∷ ts) h = inr (sym (sum-map count_of (t ∷ u ∷ ts)) ∙ eqb-true (sum (map count_of (t ∷ u ∷ ts))) n h)

abbrev IsOf : ScalarType → LiteralInstance → Type 0
IsOf t x = scalars.type_of x ≡ t

all_cast : (s : ScalarType) (xs zs : List LiteralInstance) → collected (conversions.constructed s) xs ≡ Ok zs → (length zs ≡ length xs) × All (IsOf s) zs
all_cast s [] zs h = subst (λ zs. (length zs ≡ 0) × All (IsOf s) zs) (same_ok [] zs h) (refl, All-nil (IsOf s))
all_cast s (x ∷ xs) zs h =
    let one = then_of (conversions.constructed s x) (λ y. then_with (collected (conversions.constructed s) xs) (λ ys. Ok (y ∷ ys))) zs h in
    let others = then_of (collected (conversions.constructed s) xs) (λ ys. Ok (one.value ∷ ys)) zs one.gives in
    let rest = all_cast s xs others.value others.was in
    subst (λ zs. (length zs ≡ length (x ∷ xs)) × All (IsOf s) zs) (same_ok (one.value ∷ others.value) zs others.gives)
    (ap suc rest.0, All-cons (IsOf s) one.value others.value (constructed_to s x one.value one.was) rest.1)

spread_parts : (s : ScalarType) (n : ℕ) (zs : List LiteralInstance) → (length zs ≡ 1) ⊎ (length zs ≡ n) → All (IsOf s) zs → (length (spread n zs) ≡ n) × All (IsOf s) (spread n zs)
spread_parts s n (z ∷ []) count all = (length-replicate n z, All-replicate (IsOf s) n z (All-head (IsOf s) z [] all))
spread_parts s n [] (inr e) all = (e, all)
spread_parts s n [] (inl e) all = absurd (cc)
spread_parts s n (z ∷ y ∷ zs) (inr e) all = (e, all)
spread_parts s n (z ∷ y ∷ zs) (inl e) all = absurd (too_long (length zs) e)
  where
    too_long : (k : ℕ) → suc (suc k) ≡ 1 → ⊥
    too_long k e = search arith

vector_typed : (n : ℕ) (c : ShaderType) (args : List Instance) (x : Instance) → 2 ≤ n → n ≤ 4 → All IsWellFormed args → fills n (types_of args) ≡ true
    → built_vector n c args ≡ Ok x → HasType x (type.Vec n c)
vector_typed n c args x two four all fit h =
    let brought = then_of (all_parts args) (vector_at n c (scalar_of c)) x h in
    by_scalar brought.value brought.was (scalar_of c) refl brought.gives
  where
    by_scalar : (given : List LiteralInstance) → all_parts args ≡ Ok given → (o : Option ScalarType) → scalar_of c ≡ o → vector_at n c o given ≡ Ok x → HasType x (type.Vec n c)
    by_scalar given was None e h = not_ok (zero_fault c) x h
    by_scalar given was (Some s) e h =
        let made = then_of (collected (conversions.constructed s) given) (λ zs. Ok (vector_of s (spread n zs))) x h in
        let parts = all_cast s given made.value made.was in
        let counts = subst (λ k. (k ≡ 1) ⊎ (k ≡ n)) (sym (parts.0 ∙ all_counted args all given was)) (filled n (types_of args) fit) in
        let all_spread = spread_parts s n made.value counts parts.1 in
        let w : VecInstance = record { ty = s; components = spread n made.value } in
        subst (λ y. HasType y (type.Vec n c)) (same_ok (v.Vec w) x made.gives) (record {
          formed = IsWellFormed.vector w (record { two = subst (λ k. 2 ≤ k) (sym all_spread.0) two; four = subst (λ k. k ≤ 4) (sym all_spread.0) four; alike = all_spread.1 });
          typed = ap type_layer (v.outs-Vec w) ∙ (λ k. type.Vec ((ap (λ m. min m 255) all_spread.0 ∙ sym (short n four)) k) (scalar_at c s e k));
        })

abbrev Empty : List ShaderType → Type 0
Empty ts = ts ≡ []

some_types : {G : Type 0} (x : Instance) (args : List Instance) → types_of (x ∷ args) ≡ [] → G
some_types x args e = absurd (cc)

vectors_built : (n : ℕ) (c t : ShaderType) (args : List Instance) (x : Instance) → 2 ≤ n → n ≤ 4 → All IsWellFormed args → t ≡ type.Vec n c
    → Empty (types_of args) ⊎ (are_parts n (types_of args) ≡ true) → built t args ≡ Ok x → HasType x t
vectors_built n c t [] x two four all e parts h = zero_has_type t x h
vectors_built n c t (y ∷ args) x two four all e (inl none) h = some_types y args none
vectors_built n c t (y ∷ args) x two four all e (inr parts) h =
    subst (HasType x) (sym e) (vector_typed n c (y ∷ args) x two four all (first_so (fills n (types_of (y ∷ args))) _ parts)
    (sym (ap (λ u. built u (y ∷ args)) e ∙ (λ k. built_layer (type.Vec n c) y (y ∷ args) (type.outs-Vec n c k))) ∙ h))

-- ---- arrays

elements_typed : (e : ShaderType) (args xs : List Instance) → All IsWellFormed args → collected (λ x. converted x e) args ≡ Ok xs → AreElements e xs × (length xs ≡ length args)
elements_typed e [] xs all h = subst (λ ys. AreElements e ys × (length ys ≡ 0)) (same_ok [] xs h) (AreElements.no_elements, refl)
elements_typed e (x ∷ args) xs all h =
    let one = then_of (converted x e) (λ y. then_with (collected (λ z. converted z e) args) (λ ys. Ok (y ∷ ys))) xs h in
    let others = then_of (collected (λ z. converted z e) args) (λ ys. Ok (one.value ∷ ys)) xs one.gives in
    let rest = elements_typed e args others.value (All-tail IsWellFormed x args all) others.was in
    let first = converted_has_type x one.value e (All-head IsWellFormed x args all) one.was in
    subst (λ ys. AreElements e ys × (length ys ≡ length (x ∷ args))) (same_ok (one.value ∷ others.value) xs others.gives)
    (AreElements.element first.formed first.typed rest.0, ap suc rest.1)

arrays_built : (e t : ShaderType) (n : ℕ) (args : List Instance) (x : Instance) → All IsWellFormed args → t ≡ type.Array e (Some n)
    → (args ≡ []) ⊎ (length args ≡ n) → built t args ≡ Ok x → HasType x t
arrays_built e t n [] x all is count h = zero_has_type t x h
arrays_built e t n (y ∷ args) x all is (inl none) h = absurd (cc)
arrays_built e t n (y ∷ args) x all is (inr count) h =
    let made = then_of (collected (λ z. converted z e) (y ∷ args)) (λ xs. Ok (array_of false e xs)) x
    (sym (ap (λ u. built u (y ∷ args)) is ∙ (λ k. built_layer (type.Array e (Some n)) y (y ∷ args) (type.outs-Array e (Some n) k))) ∙ h) in
    let elements = elements_typed e (y ∷ args) made.value all made.was in
    let a : ArrayInstanceOf Instance = record { element = e; components = made.value; runtime_sized = false } in
    subst (λ z. HasType z t) (same_ok (v.Array a) x made.gives)
    (record { formed = IsWellFormed.array a elements.0; typed = ap type_layer (v.outs-Array a) ∙ ap (λ k. type.Array e (Some k)) (elements.1 ∙ count) ∙ sym is })

lengths_same : (args : List Instance) → length (types_of args) ≡ length args
lengths_same [] = refl
lengths_same (x ∷ args) = ap suc (lengths_same args)

under : {A : Type 0} (b : Bool) (a c : A) → cond b (Some a) None ≡ Some c → (b ≡ true) × (a ≡ c)
under true a c h = (refl, inside a c h)
under false a c h = nothing c h

given_count : (count : Option ℕ) (k n : ℕ) → array_length count (suc k) ≡ Some n → suc k ≡ n
given_count None k n h = (under (nat_lt 0 (suc k)) (suc k) n h).1
given_count (Some m) k n h =
    let found = under (nat_lt 0 m && ((suc k == 0) || (suc k == m))) m n h in
    by (either (suc k == 0) (suc k == m) (second_so (nat_lt 0 m) ((suc k == 0) || (suc k == m)) found.0)) ∙ found.1
  where
    no_zero : (j : ℕ) → suc j ≡ 0 → ⊥
    no_zero j e = search arith

    by : ((suc k == 0) ≡ true) ⊎ ((suc k == m) ≡ true) → suc k ≡ m
    by (inl e) = absurd (no_zero k (eqb-true (suc k) 0 e))
    by (inr e) = eqb-true (suc k) m e

count_of_args : (count : Option ℕ) (args : List Instance) (n : ℕ) → array_length count (length (types_of args)) ≡ Some n → (args ≡ []) ⊎ (length args ≡ n)
count_of_args count [] n h = inl refl
count_of_args count (x ∷ args) n h = inr (sym (lengths_same (x ∷ args)) ∙ given_count count (length (types_of args)) n h)

-- ---- the law

fit_or : {A B C D : Type 0} → A ⊎ (B × C) → (A → D) → (B → D) → D
fit_or (inl a) f g = f a
fit_or (inr b) f g = g b.0

component_or : (ts : List ShaderType) (n : ℕ) (c : ShaderType) → IsComponent n ts c → Empty ts ⊎ (are_parts n ts ≡ true)
component_or ts n c (inl none) = inl none.0
component_or ts n c (inr parts) = inr parts.0

pub built_has_type : BuiltHasType
built_has_type (constructor.Scalar s) args t x named all made h = scalars_built t args x (ap is_scalar made.0 ∙ named) made.1 h
built_has_type (constructor.Vector n (Some template)) args t x named all made h =
    vectors_built n template.component t args x named.0 named.1 all made.0 (fit_or made.1 (λ none. inl none) (λ parts. inr parts)) h
built_has_type (constructor.Vector n None) args t x named all made h =
    vectors_built n made.0 t args x named.0 named.1 all made.1 (component_or (types_of args) n made.0 made.2) h
built_has_type (constructor.Array (Some template)) args t x named all made h =
    arrays_built template.element t made.0 args x all made.2 (count_of_args template.count args made.0 made.1) h
built_has_type (constructor.Array None) args t x named all made h =
    arrays_built made.0 t (length (types_of args)) args x all made.1 (inr (sym (lengths_same args))) h
