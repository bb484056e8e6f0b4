-- What is computed by shapes is the result of the one candidate of the least sum, and where nothing is computed there is no candidate.
use Rattle.std.proofs.Common.{◌≡◌, refl, sym, ap, ◌∙◌, subst, ℕ, ◌+◌, ◌==◌, ◌&&◌, ◌||◌, not, Bool, true, false, cond, Option, Some, None, true≢false, eqb-true, eq-eqb, ◌⊎◌, inl, inr, ⊎_elim, MatchOption, arith}
use Rattle.std.specs.Option.{is_some}
use Rattle.std.specs.Prelude.{option_and_then}
use Rattle.wgsl_words.specs.declared.operators.BinaryOperator.{BinaryOperator}
use Rattle.wgsl_words.specs.declared.operators.BinaryOperator.TheVariants.{ShortCircuitOr, ShortCircuitAnd, Addition, Subtraction, Multiplication, Division, Remainder, Equality, Inequality, LessThan, LessThanEqual, GreaterThan, GreaterThanEqual, BitwiseOr, BitwiseAnd, BitwiseXor, ShiftLeft, ShiftRight}
use Rattle.wgsl_shader_type.specs.declared.tree.ShaderType.{ShaderType}
use Rattle.wgsl_shader_type.specs.declared.tree.ShaderType.TheVariants as v
use Rattle.wgsl_shader_type.specs.Rank.{rank_of, converts, common_of}
use Rattle.wgsl_shader_type.specs.Conversion.{Path, Converts}
use Rattle.wgsl_shader_type.specs.Class.{is_bool, is_integer, is_float, is_numeric, is_scalar, integer_layer}
use Rattle.wgsl_shader_type.proofs.Ranks.{joined, in_some, path_if_rank, rank_if_path, rank_if_some, rank_if_least, rank_self, rank_of_vectors}
use Rattle.wgsl_shader_type.proofs.Commons.{equal_if_zero}
use Rattle.wgsl_type_operators.specs.Operator.{is_arithmetic, is_shift, is_logical, takes, gives, ScalarSignature, Signature, IsCandidate, IsResult, HasNoCandidate, IsBinaryResult, HasNoBinaryCandidate}
use Rattle.wgsl_type_operators.specs.ResultOf.{if_taken, component, in_vector, binary_result}
use Rattle.wgsl_type_operators.proofs.Shapes.{IsNoVector, Vectored, vector_or, from_vector, to_vector, GoesDown, goes_down, bool_goes, integer_goes, numeric_goes, scalar_goes, comparable, binary_of_vectors, binary_of_vector_left, binary_of_vector_right, binary_of_no_vectors}
use Rattle.wgsl_shader_type.proofs.Bools.{or_cases, or_right, or_left}

or_step : (a b c d : Bool) → (a ≡ true → c ≡ true) → (b ≡ true → d ≡ true) → (a || b) ≡ true → (c || d) ≡ true
or_step a b c d f g h = ⊎_elim (λ (p : a ≡ true). or_left c d (f p)) (λ (p : b ≡ true). or_right c d (g p)) (or_cases a b h)

either_goes : (K L : ShaderType → Bool) → GoesDown K → GoesDown L → GoesDown (λ t. K t || L t)
either_goes K L k l = record {
  from_f32 = or_step (K v.F32) (L v.F32) (K v.AbstractFloat) (L v.AbstractFloat) k.from_f32 l.from_f32;
  from_f16 = or_step (K v.F16) (L v.F16) (K v.AbstractFloat) (L v.AbstractFloat) k.from_f16 l.from_f16;
  from_i32 = or_step (K v.I32) (L v.I32) (K v.AbstractInt) (L v.AbstractInt) k.from_i32 l.from_i32;
  from_u32 = or_step (K v.U32) (L v.U32) (K v.AbstractInt) (L v.AbstractInt) k.from_u32 l.from_u32;
  from_abstract_float = or_step (K v.AbstractFloat) (L v.AbstractFloat) (K v.AbstractInt) (L v.AbstractInt) k.from_abstract_float l.from_abstract_float;
  no_vector = λ n t i. k.no_vector n t i || l.no_vector n t i;
  no_array = λ t n i. k.no_array t n i || l.no_array t n i;
}

none_goes : GoesDown (λ t. false)
none_goes = record {
  from_f32 = λ h. h;
  from_f16 = λ h. h;
  from_i32 = λ h. h;
  from_u32 = λ h. h;
  from_abstract_float = λ h. h;
  no_vector = λ n t. refl;
  no_array = λ t n. refl;
}

taken_goes : (operator : BinaryOperator) → GoesDown (takes operator)
taken_goes ShortCircuitOr = bool_goes
taken_goes ShortCircuitAnd = bool_goes
taken_goes Addition = numeric_goes
taken_goes Subtraction = numeric_goes
taken_goes Multiplication = numeric_goes
taken_goes Division = numeric_goes
taken_goes Remainder = numeric_goes
taken_goes Equality = scalar_goes
taken_goes Inequality = scalar_goes
taken_goes LessThan = numeric_goes
taken_goes LessThanEqual = numeric_goes
taken_goes GreaterThan = numeric_goes
taken_goes GreaterThanEqual = numeric_goes
taken_goes BitwiseOr = either_goes is_bool is_integer bool_goes integer_goes
taken_goes BitwiseAnd = either_goes is_bool is_integer bool_goes integer_goes
taken_goes BitwiseXor = integer_goes
taken_goes ShiftLeft = none_goes
taken_goes ShiftRight = none_goes

bool_scalar : (t : ShaderType) → is_bool t ≡ true → is_scalar t ≡ true
bool_scalar t h = or_left (is_bool t) (is_numeric t) h

numeric_scalar : (t : ShaderType) → is_numeric t ≡ true → is_scalar t ≡ true
numeric_scalar t h = or_right (is_bool t) (is_numeric t) h

integer_scalar : (t : ShaderType) → is_integer t ≡ true → is_scalar t ≡ true
integer_scalar t h = numeric_scalar t (or_left (is_integer t) (is_float t) h)

bits_scalar : (t : ShaderType) → (is_bool t || is_integer t) ≡ true → is_scalar t ≡ true
bits_scalar t h = ⊎_elim (bool_scalar t) (integer_scalar t) (or_cases (is_bool t) (is_integer t) h)

taken_scalar : (operator : BinaryOperator) (t : ShaderType) → takes operator t ≡ true → is_scalar t ≡ true
taken_scalar ShortCircuitOr t h = bool_scalar t h
taken_scalar ShortCircuitAnd t h = bool_scalar t h
taken_scalar Addition t h = numeric_scalar t h
taken_scalar Subtraction t h = numeric_scalar t h
taken_scalar Multiplication t h = numeric_scalar t h
taken_scalar Division t h = numeric_scalar t h
taken_scalar Remainder t h = numeric_scalar t h
taken_scalar Equality t h = h
taken_scalar Inequality t h = h
taken_scalar LessThan t h = numeric_scalar t h
taken_scalar LessThanEqual t h = numeric_scalar t h
taken_scalar GreaterThan t h = numeric_scalar t h
taken_scalar GreaterThanEqual t h = numeric_scalar t h
taken_scalar BitwiseOr t h = bits_scalar t h
taken_scalar BitwiseAnd t h = bits_scalar t h
taken_scalar BitwiseXor t h = integer_scalar t h
taken_scalar ShiftLeft t h = absurd (true≢false (sym h))
taken_scalar ShiftRight t h = absurd (true≢false (sym h))

shift_takes_none : (operator : BinaryOperator) (t : ShaderType) → is_shift operator ≡ true → takes operator t ≡ true → ⊥
shift_takes_none ShiftLeft t s h = true≢false (sym h)
shift_takes_none ShiftRight t s h = true≢false (sym h)
shift_takes_none operator t s h = true≢false (sym s)

alike_if : {operator : BinaryOperator} {a b c : ShaderType} → is_shift operator ≡ false → ScalarSignature operator a b c
    → (t : ShaderType) × (takes operator t ≡ true) × (a ≡ t) × (b ≡ t) × (c ≡ gives operator t)
alike_if s (ScalarSignature.alike operator t h) = (t, h, refl, refl, refl)
alike_if s (ScalarSignature.shift operator t h i) = absurd (true≢false (sym h ∙ s))

shift_if : {operator : BinaryOperator} {a b c : ShaderType} → is_shift operator ≡ true → ScalarSignature operator a b c → (is_integer a ≡ true) × (b ≡ v.U32) × (c ≡ a)
shift_if s (ScalarSignature.alike operator t h) = absurd (shift_takes_none operator t s h)
shift_if s (ScalarSignature.shift operator t h i) = (i, refl, refl)

-- both operands of a signature on scalars are scalars
sides : {operator : BinaryOperator} {a b c : ShaderType} → ScalarSignature operator a b c → (is_scalar a ≡ true) × (is_scalar b ≡ true)
sides (ScalarSignature.alike operator t h) = (taken_scalar operator t h, taken_scalar operator t h)
sides (ScalarSignature.shift operator t h i) = (integer_scalar t i, integer_scalar v.U32 (ap integer_layer v.outs-U32))

ranked : (a b : ShaderType) → converts a b ≡ true → (n : ℕ) × (rank_of a b ≡ Some n)
ranked a b h = by (rank_of a b) h
  where
    by : (o : Option ℕ) → is_some o ≡ true → (n : ℕ) × (o ≡ Some n)
    by None e = absurd (true≢false (sym e))
    by (Some n) e = (n, refl)

converts_if : (a b : ShaderType) (n : ℕ) → Path a b n → converts a b ≡ true
converts_if a b n p = ap is_some (rank_if_path p)

-- ---- scalars

module _ (operator : BinaryOperator) (left right : ShaderType) where
  abbrev Scalars : ShaderType → ShaderType → ShaderType → ℕ → Type 0
  Scalars a b c sum = IsCandidate (ScalarSignature operator) left right a b c sum

  abbrev Meets : Option ShaderType → Type 0
  Meets o = MatchOption o (HasNoCandidate (ScalarSignature operator) left right) (IsResult (ScalarSignature operator) left right)

  -- a shift
  shift_meets : (i c : Bool) → is_shift operator ≡ true → is_integer left ≡ i → converts right v.U32 ≡ c → Meets (cond (i && c) (Some left) None)
  shift_meets true true s i c =
      let k = ranked right v.U32 c in
      record {
        first = left;
        second = v.U32;
        sum = 0 + k.0;
        candidate = record {
          here = ScalarSignature.shift operator left s i;
          left_rank = 0;
          right_rank = k.0;
          left_converts = rank_if_some left left 0 (rank_self left);
          right_converts = rank_if_some right v.U32 k.0 k.1;
          sums = refl;
        };
        least = λ a b o other q.
            let e = shift_if s q.here in
            let same_rank : k.0 ≡ q.right_rank = in_some k.0 q.right_rank (sym k.1 ∙ ap (rank_of right) (sym e.1) ∙ rank_if_least right b q.right_rank q.right_converts) in
            omega (arith, q.sums);
        alone = λ a b o other q same_sum.
            let e = shift_if s q.here in
            let same_rank : k.0 ≡ q.right_rank = in_some k.0 q.right_rank (sym k.1 ∙ ap (rank_of right) (sym e.1) ∙ rank_if_least right b q.right_rank q.right_converts) in
            let zero_rank : q.left_rank ≡ 0 = omega (arith, q.sums) in
            let here = equal_if_zero q.left_converts.path zero_rank in
            (sym here, e.1, e.2 ∙ sym here);
      }
  shift_meets true false s i c = λ a b o sum q.
      let e = shift_if s q.here in
      true≢false (sym (converts_if right v.U32 q.right_rank (subst (λ t. Path right t q.right_rank) e.1 q.right_converts.path)) ∙ c)
  shift_meets false c s i h = λ a b o sum q.
      let e = shift_if s q.here in
      true≢false (sym (goes_down integer_goes q.left_converts.path e.0) ∙ i)

  -- two of one type
  module _ (s : is_shift operator ≡ false) where
    right_meets : (k : ℕ) → rank_of left right ≡ Some k → (t : Bool) → takes operator right ≡ t → Meets (cond t (Some (gives operator right)) None)
    right_meets k h true t = record {
      first = right;
      second = right;
      sum = k + 0;
      candidate = record {
        here = ScalarSignature.alike operator right t;
        left_rank = k;
        right_rank = 0;
        left_converts = rank_if_some left right k h;
        right_converts = rank_if_some right right 0 (rank_self right);
        sums = refl;
      };
      least = λ a b o other q. let e = ahead a b o other q in omega (arith, q.sums);
      alone = λ a b o other q same_sum.
          let e = alike_if s q.here in
          let f = ahead a b o other q in
          let zero_rank : q.right_rank ≡ 0 = omega (arith, q.sums) in
          let here : right ≡ b = equal_if_zero q.right_converts.path zero_rank in
          (e.2 ∙ sym e.3 ∙ sym here, sym here, e.4 ∙ ap (gives operator) (sym e.3 ∙ sym here));
    }
      where
        ahead : (a b o : ShaderType) (other : ℕ) (q : Scalars a b o other) → q.left_rank ≡ k + q.right_rank
        ahead a b o other q =
            let e = alike_if s q.here in
            in_some q.left_rank (k + q.right_rank) (sym (rank_if_least left a q.left_rank q.left_converts) ∙ ap (rank_of left) (e.2 ∙ sym e.3)
            ∙ rank_if_path (joined (path_if_rank left right k h) q.right_converts.path))
    right_meets k h false t = λ a b o sum q.
        let e = alike_if s q.here in
        true≢false (sym (goes_down (taken_goes operator) q.right_converts.path (ap (takes operator) e.3 ∙ e.1)) ∙ t)

    left_meets : (k : ℕ) → rank_of right left ≡ Some k → (t : Bool) → takes operator left ≡ t → Meets (cond t (Some (gives operator left)) None)
    left_meets k h true t = record {
      first = left;
      second = left;
      sum = 0 + k;
      candidate = record {
        here = ScalarSignature.alike operator left t;
        left_rank = 0;
        right_rank = k;
        left_converts = rank_if_some left left 0 (rank_self left);
        right_converts = rank_if_some right left k h;
        sums = refl;
      };
      least = λ a b o other q. let e = ahead a b o other q in omega (arith, q.sums);
      alone = λ a b o other q same_sum.
          let e = alike_if s q.here in
          let f = ahead a b o other q in
          let zero_rank : q.left_rank ≡ 0 = omega (arith, q.sums) in
          let here : left ≡ a = equal_if_zero q.left_converts.path zero_rank in
          (sym here, e.3 ∙ sym e.2 ∙ sym here, e.4 ∙ ap (gives operator) (sym e.2 ∙ sym here));
    }
      where
        ahead : (a b o : ShaderType) (other : ℕ) (q : Scalars a b o other) → q.right_rank ≡ k + q.left_rank
        ahead a b o other q =
            let e = alike_if s q.here in
            in_some q.right_rank (k + q.left_rank) (sym (rank_if_least right b q.right_rank q.right_converts) ∙ ap (rank_of right) (e.3 ∙ sym e.2)
            ∙ rank_if_path (joined (path_if_rank right left k h) q.left_converts.path))
    left_meets k h false t = λ a b o sum q.
        let e = alike_if s q.here in
        true≢false (sym (goes_down (taken_goes operator) q.left_converts.path (ap (takes operator) e.2 ∙ e.1)) ∙ t)

    apart : converts left right ≡ false → converts right left ≡ false → HasNoCandidate (ScalarSignature operator) left right
    apart f g a b o sum q =
        let e = alike_if s q.here in
        ⊎_elim
        (λ (c : Converts left right). true≢false (sym (converts_if left right c.0 c.1) ∙ f))
        (λ (c : Converts right left). true≢false (sym (converts_if right left c.0 c.1) ∙ g))
        (comparable (subst (λ t. Path left t q.left_rank) e.2 q.left_converts.path) (subst (λ t. Path right t q.right_rank) e.3 q.right_converts.path) (taken_scalar operator e.0 e.1))

    alike_meets : (f g : Bool) → converts left right ≡ f → converts right left ≡ g → Meets (option_and_then (if_taken operator) (cond f (Some right) (cond g (Some left) None)))
    alike_meets true g f h = let k = ranked left right f in right_meets k.0 k.1 (takes operator right) refl
    alike_meets false true f h = let k = ranked right left h in left_meets k.0 k.1 (takes operator left) refl
    alike_meets false false f h = apart f h

  component_meets : (s : Bool) → is_shift operator ≡ s
      → Meets (cond s (cond (is_integer left && converts right v.U32) (Some left) None) (option_and_then (if_taken operator) (common_of left right)))
  component_meets true s = shift_meets (is_integer left) (converts right v.U32) s refl refl
  component_meets false s = alike_meets s (converts left right) (converts right left) refl refl

  pub scalars_meet : Meets (component operator left right)
  scalars_meet = component_meets (is_shift operator) refl

-- ---- vectors and scalars

abbrev Found : BinaryOperator → ShaderType → ShaderType → Option ShaderType → Type 0
Found operator left right o = MatchOption o (HasNoBinaryCandidate operator left right) (IsBinaryResult operator left right)

-- what is found of two scalars is found of two wholes, where each candidate for the wholes comes from one for the scalars
module _ (operator : BinaryOperator) (left right l r : ShaderType) (f g h : ShaderType → ShaderType)
    (up : (a b c : ShaderType) → ScalarSignature operator a b c → Signature operator (f a) (g b) (h c))
    (up_left : (a : ShaderType) (n : ℕ) → rank_of l a ≡ Some n → rank_of left (f a) ≡ Some n)
    (up_right : (b : ShaderType) (n : ℕ) → rank_of r b ≡ Some n → rank_of right (g b) ≡ Some n)
    (down : (A B C : ShaderType) (m n : ℕ) → Signature operator A B C → rank_of left A ≡ Some m → rank_of right B ≡ Some n
    → (a : ShaderType) × (b : ShaderType) × (c : ShaderType) × ScalarSignature operator a b c × (rank_of l a ≡ Some m) × (rank_of r b ≡ Some n) × (A ≡ f a) × (B ≡ g b) × (C ≡ h c)) where
  parts : (A B C : ShaderType) (sum : ℕ) → IsCandidate (Signature operator) left right A B C sum
      → (a : ShaderType) × (b : ShaderType) × (c : ShaderType) × IsCandidate (ScalarSignature operator) l r a b c sum × (A ≡ f a) × (B ≡ g b) × (C ≡ h c)
  parts A B C sum q =
      let d = down A B C q.left_rank q.right_rank q.here (rank_if_least left A q.left_rank q.left_converts) (rank_if_least right B q.right_rank q.right_converts) in (
        d.0,
        d.1,
        d.2,
        record {
          here = d.3;
          left_rank = q.left_rank;
          right_rank = q.right_rank;
          left_converts = rank_if_some l d.0 q.left_rank d.4;
          right_converts = rank_if_some r d.1 q.right_rank d.5;
          sums = q.sums;
        },
        d.6,
        d.7,
        d.8,
      )

  lifted : (c : ShaderType) → IsResult (ScalarSignature operator) l r c → IsBinaryResult operator left right (h c)
  lifted c is = record {
    first = f is.first;
    second = g is.second;
    sum = is.sum;
    candidate = record {
      here = up is.first is.second c is.candidate.here;
      left_rank = is.candidate.left_rank;
      right_rank = is.candidate.right_rank;
      left_converts = rank_if_some left (f is.first) is.candidate.left_rank (up_left is.first is.candidate.left_rank (rank_if_least l is.first is.candidate.left_rank is.candidate.left_converts));
      right_converts = rank_if_some right (g is.second) is.candidate.right_rank (up_right is.second is.candidate.right_rank (rank_if_least r is.second is.candidate.right_rank is.candidate.right_converts));
      sums = is.candidate.sums;
    };
    least = λ A B C other q. let p = parts A B C other q in is.least p.0 p.1 p.2 other p.3;
    alone = λ A B C other q same.
        let p = parts A B C other q in
        let e = is.alone p.0 p.1 p.2 other p.3 same in
        (p.4 ∙ ap f e.0, p.5 ∙ ap g e.1, p.6 ∙ ap h e.2);
  }

  none_lifted : HasNoCandidate (ScalarSignature operator) l r → HasNoBinaryCandidate operator left right
  none_lifted none A B C sum q = let p = parts A B C sum q in none p.0 p.1 p.2 sum p.3

none_of : (operator : BinaryOperator) (left right : ShaderType)
    → ((A B C : ShaderType) (m n : ℕ) → Signature operator A B C → rank_of left A ≡ Some m → rank_of right B ≡ Some n → ⊥) → HasNoBinaryCandidate operator left right
none_of operator left right no_down A B C sum q =
    no_down A B C q.left_rank q.right_rank q.here (rank_if_least left A q.left_rank q.left_converts) (rank_if_least right B q.right_rank q.right_converts)

-- a vector converts to no scalar, and what converts to a vector is one
vector_to_scalar : {G : Type 0} (n : ℕ) (a t : ShaderType) (m : ℕ) → rank_of (v.Vec n a) t ≡ Some m → is_scalar t ≡ true → G
vector_to_scalar n a t m h s = let q = from_vector n a t m h in absurd (true≢false (sym s ∙ ap is_scalar q.1 ∙ scalar_goes.no_vector n q.0))

flat_to_vector : {G : Type 0} (t : ShaderType) (k : ℕ) (b : ShaderType) (m : ℕ) → IsNoVector t → rank_of t (v.Vec k b) ≡ Some m → G
flat_to_vector t k b m flat h = let q = to_vector k b t m h in absurd (flat k q.0 q.1)

in_vectors : (n : ℕ) (a b : ShaderType) (m : ℕ) → rank_of a b ≡ Some m → rank_of (v.Vec n a) (v.Vec n b) ≡ Some m
in_vectors n a b m h = rank_of_vectors a b n n ∙ ap (λ t. cond t (rank_of a b) None) (eq-eqb n n refl) ∙ h

vector_parts : (n k : ℕ) (l a : ShaderType) (m : ℕ) → rank_of (v.Vec n l) (v.Vec k a) ≡ Some m → ((n == k) ≡ true) × (rank_of l a ≡ Some m)
vector_parts n k l a m h = by (n == k) (rank_of l a) m (sym (rank_of_vectors l a n k) ∙ h)
  where
    by : (test : Bool) (o : Option ℕ) (m : ℕ) → cond test o None ≡ Some m → (test ≡ true) × (o ≡ Some m)
    by true o m h = (refl, h)
    by false o m h = absurd (true≢false (sym (ap is_some h)))

module _ (operator : BinaryOperator) (l r : ShaderType) where
  abbrev Parts : (f g h : ShaderType → ShaderType) → ShaderType → ShaderType → ShaderType → ℕ → ℕ → Type 0
  Parts f g h A B C m n =
      (a : ShaderType) × (b : ShaderType) × (c : ShaderType) × ScalarSignature operator a b c × (rank_of l a ≡ Some m) × (rank_of r b ≡ Some n) × (A ≡ f a) × (B ≡ g b) × (C ≡ h c)

  same_length : (n k : ℕ) → (n == k) ≡ true → (t : ShaderType) → v.Vec k t ≡ v.Vec n t
  same_length n k h t = ap (λ i. v.Vec i t) (sym (eqb-true n k h))

  -- two vectors
  vectors_down : (n : ℕ) (A B C : ShaderType) (p q : ℕ) → Signature operator A B C → rank_of (v.Vec n l) A ≡ Some p → rank_of (v.Vec n r) B ≡ Some q → Parts (v.Vec n) (v.Vec n) (v.Vec n) A B C p q
  vectors_down n A B C p q (Signature.scalars s) h g = vector_to_scalar n l A p h (sides s).0
  vectors_down n A B C p q (Signature.vectors {left = a} {right = b} {result = c} k plain s) h g =
      let x = vector_parts n k l a p h in
      let y = vector_parts n k r b q g in
      (a, b, c, s, x.1, y.1, same_length n k x.0 a, same_length n k x.0 b, same_length n k x.0 c)
  vectors_down n A B C p q (Signature.vector_and_scalar k arithmetic s) h g = vector_to_scalar n r B q g (sides s).1
  vectors_down n A B C p q (Signature.scalar_and_vector k arithmetic s) h g = vector_to_scalar n l A p h (sides s).0

  apart_down : (n m : ℕ) → ((n == m) && not (is_logical operator)) ≡ false → (A B C : ShaderType) (p q : ℕ) → Signature operator A B C → rank_of (v.Vec n l) A ≡ Some p → rank_of (v.Vec m r) B ≡ Some q → ⊥
  apart_down n m e A B C p q (Signature.scalars s) h g = vector_to_scalar n l A p h (sides s).0
  apart_down n m e A B C p q (Signature.vectors {left = a} {right = b} k plain s) h g =
      let x = vector_parts n k l a p h in
      let y = vector_parts m k r b q g in
      let one : n ≡ m = eqb-true n k x.0 ∙ sym (eqb-true m k y.0) in
      true≢false ((λ i. sym (eq-eqb n m one) i && not (sym plain i)) ∙ e)
  apart_down n m e A B C p q (Signature.vector_and_scalar k arithmetic s) h g = vector_to_scalar m r B q g (sides s).1
  apart_down n m e A B C p q (Signature.scalar_and_vector k arithmetic s) h g = vector_to_scalar n l A p h (sides s).0

  -- a vector and what is none
  left_down : (n : ℕ) → IsNoVector r → (A B C : ShaderType) (p q : ℕ) → Signature operator A B C → rank_of (v.Vec n l) A ≡ Some p → rank_of r B ≡ Some q
      → (is_arithmetic operator ≡ true) × Parts (v.Vec n) (λ t. t) (v.Vec n) A B C p q
  left_down n flat A B C p q (Signature.scalars s) h g = vector_to_scalar n l A p h (sides s).0
  left_down n flat A B C p q (Signature.vectors {right = b} k plain s) h g = flat_to_vector r k b q flat g
  left_down n flat A B C p q (Signature.vector_and_scalar {left = a} {right = b} {result = c} k arithmetic s) h g =
      let x = vector_parts n k l a p h in
      (arithmetic, (a, b, c, s, x.1, g, same_length n k x.0 a, refl, same_length n k x.0 c))
  left_down n flat A B C p q (Signature.scalar_and_vector k arithmetic s) h g = vector_to_scalar n l A p h (sides s).0

  right_down : (m : ℕ) → IsNoVector l → (A B C : ShaderType) (p q : ℕ) → Signature operator A B C → rank_of l A ≡ Some p → rank_of (v.Vec m r) B ≡ Some q
      → (is_arithmetic operator ≡ true) × Parts (λ t. t) (v.Vec m) (v.Vec m) A B C p q
  right_down m flat A B C p q (Signature.scalars s) h g = vector_to_scalar m r B q g (sides s).1
  right_down m flat A B C p q (Signature.vectors {left = a} k plain s) h g = flat_to_vector l k a p flat h
  right_down m flat A B C p q (Signature.vector_and_scalar k arithmetic s) h g = vector_to_scalar m r B q g (sides s).1
  right_down m flat A B C p q (Signature.scalar_and_vector {left = a} {right = b} {result = c} k arithmetic s) h g =
      let y = vector_parts m k r b q g in
      (arithmetic, (a, b, c, s, h, y.1, refl, same_length m k y.0 b, same_length m k y.0 c))

  -- no vectors
  flat_down : IsNoVector l → IsNoVector r → (A B C : ShaderType) (p q : ℕ) → Signature operator A B C → rank_of l A ≡ Some p → rank_of r B ≡ Some q → Parts (λ t. t) (λ t. t) (λ t. t) A B C p q
  flat_down flat flat' A B C p q (Signature.scalars s) h g = (A, B, C, s, h, g, refl, refl, refl)
  flat_down flat flat' A B C p q (Signature.vectors {left = a} k plain s) h g = flat_to_vector l k a p flat h
  flat_down flat flat' A B C p q (Signature.vector_and_scalar {left = a} k arithmetic s) h g = flat_to_vector l k a p flat h
  flat_down flat flat' A B C p q (Signature.scalar_and_vector {right = b} k arithmetic s) h g = flat_to_vector r k b q flat' g

  and_parts : (a b : Bool) → (a && not b) ≡ true → (a ≡ true) × (b ≡ false)
  and_parts true false h = (refl, refl)
  and_parts true true h = absurd (true≢false (sym h))
  and_parts false b h = absurd (true≢false (sym h))

  vectors_found : (n m : ℕ) (test : Bool) → ((n == m) && not (is_logical operator)) ≡ test
      → Found operator (v.Vec n l) (v.Vec m r) (cond test (in_vector n (component operator l r)) None)
  vectors_found n m false e = none_of operator (v.Vec n l) (v.Vec m r) (apart_down n m e)
  vectors_found n m true e =
      let b = and_parts (n == m) (is_logical operator) e in
      subst (λ k. Found operator (v.Vec n l) (v.Vec k r) (in_vector n (component operator l r))) (eqb-true n m b.0)
      (by (component operator l r) b.1 (scalars_meet operator l r))
    where
      by : (o : Option ShaderType) → is_logical operator ≡ false → Meets operator l r o → Found operator (v.Vec n l) (v.Vec n r) (in_vector n o)
      by None plain is = none_lifted operator (v.Vec n l) (v.Vec n r) l r (v.Vec n) (v.Vec n) (v.Vec n) (λ a b c s. Signature.vectors n plain s) (λ a. in_vectors n l a) (λ b. in_vectors n r b) (vectors_down n) is
      by (Some c) plain is = lifted operator (v.Vec n l) (v.Vec n r) l r (v.Vec n) (v.Vec n) (v.Vec n) (λ a b c s. Signature.vectors n plain s) (λ a. in_vectors n l a) (λ b. in_vectors n r b) (vectors_down n) c is

  left_found : (n : ℕ) → IsNoVector r → (test : Bool) → is_arithmetic operator ≡ test → Found operator (v.Vec n l) r (cond test (in_vector n (component operator l r)) None)
  left_found n flat false e = none_of operator (v.Vec n l) r (λ A B C p q s h g. true≢false (sym (left_down n flat A B C p q s h g).0 ∙ e))
  left_found n flat true e = by (component operator l r) (scalars_meet operator l r)
    where
      by : (o : Option ShaderType) → Meets operator l r o → Found operator (v.Vec n l) r (in_vector n o)
      by None is = none_lifted operator (v.Vec n l) r l r (v.Vec n) (λ t. t) (v.Vec n) (λ a b c s. Signature.vector_and_scalar n e s) (λ a. in_vectors n l a) (λ b m h. h) (λ A B C p q s h g. (left_down n flat A B C p q s h g).1) is
      by (Some c) is = lifted operator (v.Vec n l) r l r (v.Vec n) (λ t. t) (v.Vec n) (λ a b c s. Signature.vector_and_scalar n e s) (λ a. in_vectors n l a) (λ b m h. h) (λ A B C p q s h g. (left_down n flat A B C p q s h g).1) c is

  right_found : (m : ℕ) → IsNoVector l → (test : Bool) → is_arithmetic operator ≡ test → Found operator l (v.Vec m r) (cond test (in_vector m (component operator l r)) None)
  right_found m flat false e = none_of operator l (v.Vec m r) (λ A B C p q s h g. true≢false (sym (right_down m flat A B C p q s h g).0 ∙ e))
  right_found m flat true e = by (component operator l r) (scalars_meet operator l r)
    where
      by : (o : Option ShaderType) → Meets operator l r o → Found operator l (v.Vec m r) (in_vector m o)
      by None is = none_lifted operator l (v.Vec m r) l r (λ t. t) (v.Vec m) (v.Vec m) (λ a b c s. Signature.scalar_and_vector m e s) (λ a n h. h) (λ b. in_vectors m r b) (λ A B C p q s h g. (right_down m flat A B C p q s h g).1) is
      by (Some c) is = lifted operator l (v.Vec m r) l r (λ t. t) (v.Vec m) (v.Vec m) (λ a b c s. Signature.scalar_and_vector m e s) (λ a n h. h) (λ b. in_vectors m r b) (λ A B C p q s h g. (right_down m flat A B C p q s h g).1) c is

  flat_found : IsNoVector l → IsNoVector r → Found operator l r (component operator l r)
  flat_found flat flat' = by (component operator l r) (scalars_meet operator l r)
    where
      by : (o : Option ShaderType) → Meets operator l r o → Found operator l r o
      by None is = none_lifted operator l r l r (λ t. t) (λ t. t) (λ t. t) (λ a b c s. Signature.scalars s) (λ a n h. h) (λ b n h. h) (flat_down flat flat') is
      by (Some c) is = lifted operator l r l r (λ t. t) (λ t. t) (λ t. t) (λ a b c s. Signature.scalars s) (λ a n h. h) (λ b n h. h) (flat_down flat flat') c is

found_at : (operator : BinaryOperator) (left right : ShaderType) → Vectored left ⊎ IsNoVector left → Vectored right ⊎ IsNoVector right → Found operator left right (binary_result operator left right)
found_at operator left right (inl x) (inl y) =
    subst (λ t. Found operator t right (binary_result operator t right)) (sym x.2)
    (subst (λ t. Found operator (v.Vec x.0 x.1) t (binary_result operator (v.Vec x.0 x.1) t)) (sym y.2)
    (subst (Found operator (v.Vec x.0 x.1) (v.Vec y.0 y.1)) (sym (binary_of_vectors operator x.0 y.0 x.1 y.1))
    (vectors_found operator x.1 y.1 x.0 y.0 ((x.0 == y.0) && not (is_logical operator)) refl)))
found_at operator left right (inl x) (inr flat) =
    subst (λ t. Found operator t right (binary_result operator t right)) (sym x.2)
    (subst (Found operator (v.Vec x.0 x.1) right) (sym (binary_of_vector_left operator x.0 x.1 right flat))
    (left_found operator x.1 right x.0 flat (is_arithmetic operator) refl))
found_at operator left right (inr flat) (inl y) =
    subst (λ t. Found operator left t (binary_result operator left t)) (sym y.2)
    (subst (Found operator left (v.Vec y.0 y.1)) (sym (binary_of_vector_right operator left y.0 y.1 flat))
    (right_found operator left y.1 y.0 flat (is_arithmetic operator) refl))
found_at operator left right (inr flat) (inr flat') =
    subst (Found operator left right) (sym (binary_of_no_vectors operator left right flat flat')) (flat_found operator left right flat flat')

pub binary_found : (operator : BinaryOperator) (left right : ShaderType) → Found operator left right (binary_result operator left right)
binary_found operator left right = found_at operator left right (vector_or left) (vector_or right)

pub result_found : (operator : BinaryOperator) (left right result : ShaderType) → Some result ≡ binary_result operator left right → IsBinaryResult operator left right result
result_found operator left right result h = subst (Found operator left right) (sym h) (binary_found operator left right)

pub none_found : (operator : BinaryOperator) (left right : ShaderType) → None ≡ binary_result operator left right → HasNoBinaryCandidate operator left right
none_found operator left right h = subst (Found operator left right) (sym h) (binary_found operator left right)
