-- Values of operators have their types.
use Rattle.std.proofs.Common.{◌≡◌, refl, sym, ap, ◌∙◌, subst, ℕ, zero, suc, ◌≤◌, ◌==◌, ◌&&◌, not, Bool, true, false, cond, List, [], ◌∷◌, length, Option, Some, None, Result, Ok, Err, ◌⊎◌, inl, inr, true≢false, eqb-true, arith, All}
use Rattle.std.specs.Prelude.{min, MatchOption, MatchResult}
use Rattle.std.proofs.Math.Nat.{le_antisymm}
use Rattle.std.proofs.lemmas.List.Elements.{All-nil, All-cons, All-head, All-tail}
use Rattle.std.specs.Cmp.{first_so}
use Rattle.wgsl_words.specs.declared.operators.UnaryOperator.{UnaryOperator}
use Rattle.wgsl_words.specs.declared.operators.BinaryOperator.{BinaryOperator}
use Rattle.wgsl_words.specs.declared.enumerations.words.ShaderStage.{ShaderStage}
use Rattle.wgsl_shader_type.specs.declared.error.Error.{Error}
use Rattle.wgsl_shader_type.specs.declared.error.Error.TheVariants.{Unary, Binary}
use Rattle.wgsl_shader_type.specs.declared.literal.LiteralInstance.{LiteralInstance}
use Rattle.wgsl_shader_type.specs.declared.tree.ShaderType.{ShaderType}
use Rattle.wgsl_shader_type.specs.declared.tree.ShaderType as tree
use Rattle.wgsl_shader_type.specs.declared.tree.ShaderType.TheVariants as type
use Rattle.wgsl_shader_type.specs.Class.{is_scalar}
use Rattle.wgsl_type_operators.specs.Operator.{is_arithmetic, is_logical, unary_takes, IsBinaryResult, HasNoBinaryCandidate, IsUnaryResult, HasNoUnaryCandidate}
use Rattle.wgsl_type_operators.specs.ResultOf.{component, in_vector, binary_result, unary_shape, unary_result}
use Rattle.wgsl_type_operators.proofs.Shapes.{IsNoVector, binary_of_vectors, binary_of_vector_left, binary_of_vector_right, binary_of_no_vectors}
use Rattle.wgsl_type_operators.proofs.Candidates.{binary_found}
use Rattle.wgsl_type_operators.proofs.UnaryCandidates as unary
use Rattle.wgsl_scalar.specs.declared.scalar.ScalarType.{ScalarType}
use Rattle.wgsl_scalar.specs.declared.scalar.ScalarType.TheVariants.{Bool as Truth, Integer}
use Rattle.wgsl_scalar.specs.declared.scalar.IntegerType.TheVariants.{AbstractInt, I32, U32}
use Rattle.wgsl_scalar.specs.Scalars as scalars
use Rattle.wgsl_scalar.specs.Operators as on_scalars
use Rattle.wgsl_scalar.specs.OperatorTypes.{unary_type}
use Rattle.wgsl_scalar.proofs.Types.{value_has_type}
use Rattle.wgsl_scalar.proofs.OperatorTypes.{unary_has, unary_types_alike}
use Rattle.wgsl_instance.specs.declared.tree.VecInstance.{VecInstance}
use Rattle.wgsl_instance.specs.declared.tree.Instance.{Instance, out-Instance}
use Rattle.wgsl_instance.specs.declared.tree.Instance.TheVariants as v
use Rattle.wgsl_instance.specs.Answer.{then_with, collected}
use Rattle.wgsl_instance.specs.Typed.{literal_type, type_of, type_layer, vector_type, component_count, IsVector, IsWellFormed, HasType}
use Rattle.wgsl_instance.specs.Converted.{scalar_of}
use Rattle.wgsl_instance.specs.Zero.{Made}
use Rattle.wgsl_instance.proofs.Typings.{same_ok, not_ok, nothing, inside, then_of, literal_typed}
use Rattle.wgsl_instance_operators.specs.Operators.{of_pairs, with_left, with_right, no_operands, by_left, by_right, by_vector, combined, vector_of, as_vector, component_layer, no_operand, each_component}
use Rattle.wgsl_instance_operators.specs.Laws.{ValuesHaveTheirTypes, UnaryValuesHaveTheirTypes}

-- ---- types of scalars

abbrev at : ScalarType → ShaderType
at t = scalars.scalar_type t

scalar_is : (t : ScalarType) → is_scalar (at t) ≡ true
unfolding tree.out-ShaderType denote.Hole.Carrier.out
scalar_is Truth = refl
scalar_is (Integer AbstractInt) = refl
scalar_is (Integer I32) = refl
scalar_is (Integer U32) = refl

flat : (t : ScalarType) → IsNoVector (at t)
unfolding tree.out-ShaderType denote.Hole.Carrier.out
flat t n c e = true≢false (sym (scalar_is t) ∙ ap is_scalar e)

back : (t : ScalarType) → scalar_of (at t) ≡ Some t
unfolding tree.out-ShaderType denote.Hole.Carrier.out
back Truth = refl
back (Integer AbstractInt) = refl
back (Integer I32) = refl
back (Integer U32) = refl

scalars_equal : (t u : ScalarType) → at t ≡ at u → t ≡ u
scalars_equal t u e = inside t u (sym (back t) ∙ ap scalar_of e ∙ back u)

-- ---- the one result

unique : (o : BinaryOperator) (a b t : ShaderType) → IsBinaryResult o a b t → binary_result o a b ≡ Some t
unique o a b t is = by (binary_result o a b) (binary_found o a b)
  where
    by : (c : Option ShaderType) → MatchOption c (HasNoBinaryCandidate o a b) (IsBinaryResult o a b) → c ≡ Some t
    by None none = absurd (none is.first is.second t is.sum is.candidate)
    by (Some u) found =
        let sums = le_antisymm (is.least found.first found.second u found.sum found.candidate) (found.least is.first is.second t is.sum is.candidate) in
        ap Some (sym (found.alone is.first is.second t is.sum is.candidate sums).2)

-- what an operator on two scalars gives is of the components' type
scalars_give : (s : ShaderStage) (o : BinaryOperator) (x y z : LiteralInstance) → on_scalars.binary_value s o x y ≡ Ok z
    → component o (literal_type x) (literal_type y) ≡ Some (literal_type z)
scalars_give s o x y z h =
    sym (binary_of_no_vectors o (literal_type x) (literal_type y) (flat (scalars.type_of x)) (flat (scalars.type_of y)))
    ∙ unique o (literal_type x) (literal_type y) (literal_type z) (value_has_type s o x y z h)

abbrev IsOf : ScalarType → LiteralInstance → Type 0
IsOf t x = scalars.type_of x ≡ t

abbrev Gives : Option ShaderType → LiteralInstance → Type 0
Gives c z = c ≡ Some (literal_type z)

types_give : (s : ShaderStage) (o : BinaryOperator) (a b : ScalarType) (x y z : LiteralInstance) → IsOf a x → IsOf b y → on_scalars.binary_value s o x y ≡ Ok z
    → Gives (component o (at a) (at b)) z
types_give s o a b x y z p q h = sym (λ k. component o (at (p k)) (at (q k))) ∙ scalars_give s o x y z h

-- ---- components

longer : (zs : List LiteralInstance) (xs : List LiteralInstance) (z x : LiteralInstance) → length zs ≡ length xs → length (z ∷ zs) ≡ length (x ∷ xs)
longer zs xs z x e = ap suc e

abbrev Parts : Option ShaderType → List LiteralInstance → List LiteralInstance → Type 0
Parts c xs zs = (length zs ≡ length xs) × All (Gives c) zs

none_parts : (c : Option ShaderType) (zs : List LiteralInstance) → [] ≡ zs → Parts c [] zs
none_parts c zs e = subst (Parts c []) e (refl, All-nil (Gives c))

-- one component after the other, each with a scalar
each_gives : (f : LiteralInstance → Result LiteralInstance Error) (a : ScalarType) (c : Option ShaderType)
    → ((x z : LiteralInstance) → IsOf a x → f x ≡ Ok z → Gives c z) → (xs zs : List LiteralInstance) → All (IsOf a) xs → collected f xs ≡ Ok zs → Parts c xs zs
each_gives f a c gives [] zs all h = none_parts c zs (same_ok [] zs h)
each_gives f a c gives (x ∷ xs) zs all h =
    let one = then_of (f x) (λ y. then_with (collected f xs) (λ ys. Ok (y ∷ ys))) zs h in
    let others = then_of (collected f xs) (λ ys. Ok (one.value ∷ ys)) zs one.gives in
    let rest = each_gives f a c gives xs others.value (All-tail (IsOf a) x xs all) others.was in
    subst (Parts c (x ∷ xs)) (same_ok (one.value ∷ others.value) zs others.gives)
    (longer others.value xs one.value x rest.0, All-cons (Gives c) one.value others.value (gives x one.value (All-head (IsOf a) x xs all) one.was) rest.1)

less : (n m : ℕ) → suc n ≡ suc m → n ≡ m
less n m h = cc

never : {G : Type 0} (n : ℕ) → zero ≡ suc n → G
never n h = absurd (cc)

-- the components of two vectors of one length
pairs_give : (s : ShaderStage) (o : BinaryOperator) (a b : ScalarType) (xs ys zs : List LiteralInstance) → length xs ≡ length ys → All (IsOf a) xs → All (IsOf b) ys
    → of_pairs s o xs ys ≡ Ok zs → Parts (component o (at a) (at b)) xs zs
pairs_give s o a b [] ys zs e all all' h = none_parts (component o (at a) (at b)) zs (same_ok [] zs h)
pairs_give s o a b (x ∷ xs) [] zs e all all' h = never (length xs) (sym e)
pairs_give s o a b (x ∷ xs) (y ∷ ys) zs e all all' h =
    let c = component o (at a) (at b) in
    let one = then_of (on_scalars.binary_value s o x y) (λ z. then_with (of_pairs s o xs ys) (λ rest. Ok (z ∷ rest))) zs h in
    let others = then_of (of_pairs s o xs ys) (λ rest. Ok (one.value ∷ rest)) zs one.gives in
    let rest = pairs_give s o a b xs ys others.value (less (length xs) (length ys) e) (All-tail (IsOf a) x xs all) (All-tail (IsOf b) y ys all') others.was in
    let first = types_give s o a b x y one.value (All-head (IsOf a) x xs all) (All-head (IsOf b) y ys all') one.was in
    subst (Parts c (x ∷ xs)) (same_ok (one.value ∷ others.value) zs others.gives)
    (longer others.value xs one.value x rest.0, All-cons (Gives c) one.value others.value first rest.1)

all_alike : (c : Option ShaderType) (t : ScalarType) → c ≡ Some (at t) → (zs : List LiteralInstance) → All (Gives c) zs → All (IsOf t) zs
all_alike c t e [] all = All-nil (IsOf t)
all_alike c t e (z ∷ zs) all =
    let here = inside (literal_type z) (at t) (sym (All-head (Gives c) z zs all) ∙ e) in
    All-cons (IsOf t) z zs (scalars_equal (scalars.type_of z) t here) (all_alike c t e zs (All-tail (Gives c) z zs all))

-- ---- the vector of what was given

vector_made : (c : Option ShaderType) (xs zs : List LiteralInstance) (t : ShaderType) → 2 ≤ length xs → length xs ≤ 4 → Parts c xs zs
    → in_vector (component_count xs) c ≡ Some t → HasType (vector_of zs) t
vector_made c xs [] t two four parts h = absurd (too_short (length xs) two parts.0)
  where
    too_short : (n : ℕ) → 2 ≤ n → 0 ≡ n → ⊥
    too_short n p q = search arith
vector_made c xs (z ∷ zs) t two four parts h =
    let w : VecInstance = record { ty = scalars.type_of z; components = z ∷ zs } in
    let e = All-head (Gives c) z zs parts.1 in
    record {
      formed = IsWellFormed.vector w (record {
        two = subst (λ n. 2 ≤ n) (sym parts.0) two;
        four = subst (λ n. n ≤ 4) (sym parts.0) four;
        alike = all_alike c (scalars.type_of z) e (z ∷ zs) parts.1;
      });
      typed = ap type_layer (v.outs-Vec w) ∙ ap (λ n. type.Vec (min n 255) (literal_type z)) parts.0
          ∙ inside (type.Vec (component_count xs) (literal_type z)) t (sym (ap (in_vector (component_count xs)) e) ∙ h);
    }

-- ---- what operands are

abbrev IsOther : Instance → Type 0
IsOther x = ((s : ShaderStage) (o : BinaryOperator) (e : Made) (y : Instance) → by_left s o e y (out-Instance x) ≡ e)
    × ((s : ShaderStage) (o : BinaryOperator) (e : Made) (a : LiteralInstance) → by_right s o e a (out-Instance x) ≡ e)
    × ((s : ShaderStage) (o : BinaryOperator) (e : Made) (a : VecInstance) → by_vector s o e a (out-Instance x) ≡ e)

abbrev Kind : Instance → Type 0
Kind x = ((a : LiteralInstance) × (x ≡ v.Literal a)) ⊎ (((w : VecInstance) × IsVector w × (x ≡ v.Vec w)) ⊎ IsOther x)

kind_of : (x : Instance) → IsWellFormed x → Kind x
kind_of x (IsWellFormed.literal a) = inl (a, refl)
kind_of x (IsWellFormed.vector w f) = inr (inl (w, f, refl))
kind_of x (IsWellFormed.struct a f) = inr (inr ((λ s o e y k. by_left s o e y (v.outs-Struct a k)), (λ s o e y k. by_right s o e y (v.outs-Struct a k)), (λ s o e y k. by_vector s o e y (v.outs-Struct a k))))
kind_of x (IsWellFormed.array a f) = inr (inr ((λ s o e y k. by_left s o e y (v.outs-Array a k)), (λ s o e y k. by_right s o e y (v.outs-Array a k)), (λ s o e y k. by_vector s o e y (v.outs-Array a k))))
kind_of x (IsWellFormed.pointer a) = inr (inr ((λ s o e y k. by_left s o e y (v.outs-Ptr a k)), (λ s o e y k. by_right s o e y (v.outs-Ptr a k)), (λ s o e y k. by_vector s o e y (v.outs-Ptr a k))))
kind_of x (IsWellFormed.reference a) = inr (inr ((λ s o e y k. by_left s o e y (v.outs-Ref a k)), (λ s o e y k. by_right s o e y (v.outs-Ref a k)), (λ s o e y k. by_vector s o e y (v.outs-Ref a k))))
kind_of x (IsWellFormed.deferred a) = inr (inr ((λ s o e y k. by_left s o e y (v.outs-Deferred a k)), (λ s o e y k. by_right s o e y (v.outs-Deferred a k)), (λ s o e y k. by_vector s o e y (v.outs-Deferred a k))))

vector_typed : (w : VecInstance) → type_of (v.Vec w) ≡ vector_type w
vector_typed w = ap type_layer (v.outs-Vec w)

refused : {G : Type 0} (o : BinaryOperator) (x y z : Instance) → no_operands o x y ≡ Ok z → G
refused o x y z h = not_ok (Binary o (type_of x) (type_of y)) z h

module _ (s : ShaderStage) (o : BinaryOperator) (z : Instance) (t : ShaderType) where
  two_scalars : (a b : LiteralInstance) → binary_result o (literal_type a) (literal_type b) ≡ Some t → combined s o (v.Literal a) (v.Literal b) ≡ Ok z → HasType z t
  two_scalars a b u h =
      let e = no_operands o (v.Literal a) (v.Literal b) in
      let r = then_of (on_scalars.binary_value s o a b) (λ c. Ok (v.Literal c)) z
      (sym ((λ k. by_left s o e (v.Literal b) (v.outs-Literal a k)) ∙ (λ k. by_right s o e a (v.outs-Literal b k))) ∙ h) in
      let c = scalars_give s o a b r.value r.was in
      let same = inside (literal_type r.value) t (sym (binary_of_no_vectors o (literal_type a) (literal_type b) (flat (scalars.type_of a)) (flat (scalars.type_of b)) ∙ c) ∙ u) in
      subst (λ y. HasType y t) (same_ok (v.Literal r.value) z r.gives) (record { formed = IsWellFormed.literal r.value; typed = literal_typed r.value ∙ same })

  -- where the test of the shapes is true
  chosen : (b : Bool) (c : Option ShaderType) → cond b c None ≡ Some t → c ≡ Some t
  chosen true c h = h
  chosen false c h = nothing t h

  vector_first : (a : VecInstance) (b : LiteralInstance) → IsVector a → binary_result o (vector_type a) (literal_type b) ≡ Some t → combined s o (v.Vec a) (v.Literal b) ≡ Ok z → HasType z t
  vector_first a b is u h =
      let e = no_operands o (v.Vec a) (v.Literal b) in
      let c = component o (at a.ty) (literal_type b) in
      let r = then_of (collected (with_right s o b) a.components) (λ zs. Ok (vector_of zs)) z
      (sym ((λ k. by_left s o e (v.Literal b) (v.outs-Vec a k)) ∙ (λ k. by_vector s o e a (v.outs-Literal b k))) ∙ h) in
      let parts = each_gives (with_right s o b) a.ty c (λ x y p q. types_give s o a.ty (scalars.type_of b) x b y p refl q) a.components r.value is.alike r.was in
      let shape = binary_of_vector_left o (component_count a.components) (at a.ty) (literal_type b) (flat (scalars.type_of b)) in
      subst (λ y. HasType y t) (same_ok (vector_of r.value) z r.gives)
      (vector_made c a.components r.value t is.two is.four parts (chosen (is_arithmetic o) (in_vector (component_count a.components) c) (sym shape ∙ u)))

  scalar_first : (a : LiteralInstance) (b : VecInstance) → IsVector b → binary_result o (literal_type a) (vector_type b) ≡ Some t → combined s o (v.Literal a) (v.Vec b) ≡ Ok z → HasType z t
  scalar_first a b is u h =
      let e = no_operands o (v.Literal a) (v.Vec b) in
      let c = component o (literal_type a) (at b.ty) in
      let r = then_of (collected (with_left s o a) b.components) (λ zs. Ok (vector_of zs)) z
      (sym ((λ k. by_left s o e (v.Vec b) (v.outs-Literal a k)) ∙ (λ k. by_right s o e a (v.outs-Vec b k))) ∙ h) in
      let parts = each_gives (with_left s o a) b.ty c (λ x y p q. types_give s o (scalars.type_of a) b.ty a x y refl p q) b.components r.value is.alike r.was in
      let shape = binary_of_vector_right o (literal_type a) (component_count b.components) (at b.ty) (flat (scalars.type_of a)) in
      subst (λ y. HasType y t) (same_ok (vector_of r.value) z r.gives)
      (vector_made c b.components r.value t is.two is.four parts (chosen (is_arithmetic o) (in_vector (component_count b.components) c) (sym shape ∙ u)))

  -- vectors of a shape that the operator takes have one length
  counts_equal : (n m : ℕ) → n ≤ 4 → m ≤ 4 → (b : Bool) (c : Option ShaderType) → cond ((min n 255 == min m 255) && b) c None ≡ Some t → n ≡ m
  counts_equal n m p q b c h = short n m p q (eqb-true (min n 255) (min m 255) (first_so (min n 255 == min m 255) b (by ((min n 255 == min m 255) && b) h)))
    where
      by : (test : Bool) → cond test c None ≡ Some t → test ≡ true
      by true h = refl
      by false h = nothing t h

      short : (n m : ℕ) → n ≤ 4 → m ≤ 4 → min n 255 ≡ min m 255 → n ≡ m
      short n m p q e = search arith

  two_vectors : (a b : VecInstance) → IsVector a → IsVector b → binary_result o (vector_type a) (vector_type b) ≡ Some t → combined s o (v.Vec a) (v.Vec b) ≡ Ok z → HasType z t
  two_vectors a b is is' u h =
      let e = no_operands o (v.Vec a) (v.Vec b) in
      let c = component o (at a.ty) (at b.ty) in
      let r = then_of (of_pairs s o a.components b.components) (λ zs. Ok (vector_of zs)) z
      (sym ((λ k. by_left s o e (v.Vec b) (v.outs-Vec a k)) ∙ (λ k. by_vector s o e a (v.outs-Vec b k))) ∙ h) in
      let shape = sym (binary_of_vectors o (component_count a.components) (component_count b.components) (at a.ty) (at b.ty)) ∙ u in
      let counts = counts_equal (length a.components) (length b.components) is.four is'.four (not (is_logical o)) (in_vector (component_count a.components) c) shape in
      let parts = pairs_give s o a.ty b.ty a.components b.components r.value counts is.alike is'.alike r.was in
      subst (λ y. HasType y t) (same_ok (vector_of r.value) z r.gives)
      (vector_made c a.components r.value t is.two is.four parts
      (chosen ((component_count a.components == component_count b.components) && not (is_logical o)) (in_vector (component_count a.components) c) shape))

  by_kinds : (x y : Instance) → Kind x → Kind y → binary_result o (type_of x) (type_of y) ≡ Some t → combined s o x y ≡ Ok z → HasType z t
  by_kinds x y (inl a) (inl b) u h =
      two_scalars a.0 b.0 (sym (λ k. binary_result o ((ap type_of a.1 ∙ literal_typed a.0) k) ((ap type_of b.1 ∙ literal_typed b.0) k)) ∙ u) (sym (λ k. combined s o (a.1 k) (b.1 k)) ∙ h)
  by_kinds x y (inl a) (inr (inl b)) u h =
      scalar_first a.0 b.0 b.1 (sym (λ k. binary_result o ((ap type_of a.1 ∙ literal_typed a.0) k) ((ap type_of b.2 ∙ vector_typed b.0) k)) ∙ u) (sym (λ k. combined s o (a.1 k) (b.2 k)) ∙ h)
  by_kinds x y (inr (inl a)) (inl b) u h =
      vector_first a.0 b.0 a.1 (sym (λ k. binary_result o ((ap type_of a.2 ∙ vector_typed a.0) k) ((ap type_of b.1 ∙ literal_typed b.0) k)) ∙ u) (sym (λ k. combined s o (a.2 k) (b.1 k)) ∙ h)
  by_kinds x y (inr (inl a)) (inr (inl b)) u h =
      two_vectors a.0 b.0 a.1 b.1 (sym (λ k. binary_result o ((ap type_of a.2 ∙ vector_typed a.0) k) ((ap type_of b.2 ∙ vector_typed b.0) k)) ∙ u) (sym (λ k. combined s o (a.2 k) (b.2 k)) ∙ h)
  by_kinds x y (inr (inr a)) b u h = refused o x y z (sym (a.0 s o (no_operands o x y) y) ∙ h)
  by_kinds x y (inl a) (inr (inr b)) u h =
      refused o x y z (sym ((λ k. by_left s o (no_operands o x y) y (out-Instance (a.1 k))) ∙ (λ k. by_left s o (no_operands o x y) y (v.outs-Literal a.0 k)) ∙ b.1 s o (no_operands o x y) a.0) ∙ h)
  by_kinds x y (inr (inl a)) (inr (inr b)) u h =
      refused o x y z (sym ((λ k. by_left s o (no_operands o x y) y (out-Instance (a.2 k))) ∙ (λ k. by_left s o (no_operands o x y) y (v.outs-Vec a.0 k)) ∙ b.2 s o (no_operands o x y) a.0) ∙ h)

pub values_have_their_types : ValuesHaveTheirTypes
values_have_their_types s o x y z t f g is h = by_kinds s o z t x y (kind_of x f) (kind_of y g) (unique o (type_of x) (type_of y) t is) h

-- ---- operators in front

unique_unary : (o : UnaryOperator) (a t : ShaderType) → IsUnaryResult o a t → unary_result o a ≡ Some t
unique_unary o a t is = by (unary_result o a) refl
  where
    by : (c : Option ShaderType) → unary_result o a ≡ c → unary_result o a ≡ Some t
    by None e = absurd (unary.none_found o a (sym e) is.first t is.rank is.candidate)
    by (Some u) e =
        let found = unary.result_found o a u (sym e) in
        let ranks = le_antisymm (is.least found.first u found.rank found.candidate) (found.least is.first t is.rank is.candidate) in
        e ∙ ap Some (sym (found.alone is.first t is.rank is.candidate ranks).1)

unary_of_scalar : (o : UnaryOperator) (t : ScalarType) → unary_result o (at t) ≡ cond (unary_takes o (at t)) (Some (at t)) None
unfolding tree.out-ShaderType denote.Hole.Carrier.out
unary_of_scalar o Truth = refl
unary_of_scalar o (Integer AbstractInt) = refl
unary_of_scalar o (Integer I32) = refl
unary_of_scalar o (Integer U32) = refl

unary_of_vector : (o : UnaryOperator) (n : ℕ) (c : ShaderType) → unary_result o (type.Vec n c) ≡ cond (unary_takes o c) (Some (type.Vec n c)) None
unary_of_vector o n c = λ k. unary_shape o (type.Vec n c) (type.outs-Vec n c k)

-- what is found under a test is what stands there
same_found : (b : Bool) (a t : ShaderType) → cond b (Some a) None ≡ Some t → a ≡ t
same_found true a t h = inside a t h
same_found false a t h = nothing t h

unary_keeps : (s : ShaderStage) (o : UnaryOperator) (x z : LiteralInstance) → on_scalars.unary_value s o x ≡ Ok z → scalars.type_of z ≡ scalars.type_of x
unary_keeps s o x z h =
    let e = unary_has s o x z h in
    let is = subst (λ r. MatchResult r (λ u. IsUnaryResult o (literal_type x) (at u)) (λ f. HasNoUnaryCandidate o (literal_type x) × (f ≡ Unary o (literal_type x)))) e (unary_types_alike o (scalars.type_of x)) in
    scalars_equal (scalars.type_of z) (scalars.type_of x)
    (sym (same_found (unary_takes o (literal_type x)) (literal_type x) (literal_type z) (sym (unary_of_scalar o (scalars.type_of x)) ∙ unique_unary o (literal_type x) (literal_type z) is)))

unary_alike : (s : ShaderStage) (o : UnaryOperator) (u : ScalarType) (xs zs : List LiteralInstance) → All (IsOf u) xs → collected (on_scalars.unary_value s o) xs ≡ Ok zs → Parts (Some (at u)) xs zs
unary_alike s o u xs zs all h =
    each_gives (on_scalars.unary_value s o) u (Some (at u)) (λ x z p q. ap (λ t. Some (at t)) (sym (unary_keeps s o x z q ∙ p))) xs zs all h

module _ (s : ShaderStage) (o : UnaryOperator) (z : Instance) (t : ShaderType) where
  of_scalar : (a : LiteralInstance) → unary_result o (literal_type a) ≡ Some t → each_component s o (v.Literal a) ≡ Ok z → HasType z t
  of_scalar a u h =
      let r = then_of (on_scalars.unary_value s o a) (λ c. Ok (v.Literal c)) z (sym (λ k. component_layer s o (no_operand o (v.Literal a)) (v.outs-Literal a k)) ∙ h) in
      let same = same_found (unary_takes o (literal_type a)) (literal_type a) t (sym (unary_of_scalar o (scalars.type_of a)) ∙ u) in
      subst (λ y. HasType y t) (same_ok (v.Literal r.value) z r.gives)
      (record { formed = IsWellFormed.literal r.value; typed = literal_typed r.value ∙ ap at (unary_keeps s o a r.value r.was) ∙ same })

  of_vector : (a : VecInstance) → IsVector a → unary_result o (vector_type a) ≡ Some t → each_component s o (v.Vec a) ≡ Ok z → HasType z t
  of_vector a is u h =
      let r = then_of (collected (on_scalars.unary_value s o) a.components) (λ zs. Ok (vector_of zs)) z (sym (λ k. component_layer s o (no_operand o (v.Vec a)) (v.outs-Vec a k)) ∙ h) in
      let parts = unary_alike s o a.ty a.components r.value is.alike r.was in
      let same = same_found (unary_takes o (at a.ty)) (vector_type a) t (sym (unary_of_vector o (component_count a.components) (at a.ty)) ∙ u) in
      subst (λ y. HasType y t) (same_ok (vector_of r.value) z r.gives) (vector_made (Some (at a.ty)) a.components r.value t is.two is.four parts (ap Some same))

  other : (x : Instance) → each_component s o x ≡ no_operand o x → each_component s o x ≡ Ok z → HasType z t
  other x e h = not_ok (Unary o (type_of x)) z (sym e ∙ h)

  unary_types : (x : Instance) → IsWellFormed x → unary_result o (type_of x) ≡ Some t → each_component s o x ≡ Ok z → HasType z t
  unary_types x (IsWellFormed.literal a) u h = of_scalar a (sym (ap (unary_result o) (literal_typed a)) ∙ u) h
  unary_types x (IsWellFormed.vector w f) u h = of_vector w f (sym (ap (unary_result o) (vector_typed w)) ∙ u) h
  unary_types x (IsWellFormed.struct a f) u h = other (v.Struct a) (λ k. component_layer s o (no_operand o (v.Struct a)) (v.outs-Struct a k)) h
  unary_types x (IsWellFormed.array a f) u h = other (v.Array a) (λ k. component_layer s o (no_operand o (v.Array a)) (v.outs-Array a k)) h
  unary_types x (IsWellFormed.pointer a) u h = other (v.Ptr a) (λ k. component_layer s o (no_operand o (v.Ptr a)) (v.outs-Ptr a k)) h
  unary_types x (IsWellFormed.reference a) u h = other (v.Ref a) (λ k. component_layer s o (no_operand o (v.Ref a)) (v.outs-Ref a k)) h
  unary_types x (IsWellFormed.deferred a) u h = other (v.Deferred a) (λ k. component_layer s o (no_operand o (v.Deferred a)) (v.outs-Deferred a k)) h

pub unary_values_have_their_types : UnaryValuesHaveTheirTypes
unary_values_have_their_types s o x z t f is h = unary_types s o z t x f (unique_unary o (type_of x) t is) h
