-- The result of an operator, shape by shape; what conversions leave of a type's shape and class.
use Rattle.std.proofs.Common.{◌≡◌, refl, sym, ap, ◌∙◌, subst, ℕ, ◌==◌, ◌&&◌, ◌||◌, not, Bool, true, false, cond, Option, Some, None, true≢false, eqb-true, ◌⊎◌, inl, inr, ⊎_elim}
use Rattle.std.specs.Option.{is_some}
use Rattle.wgsl_words.specs.declared.operators.BinaryOperator.{BinaryOperator}
use Rattle.wgsl_shader_type.specs.declared.tree.ShaderType.{ShaderType, roll-ShaderType, out-ShaderType, roll-out-ShaderType, out-roll-ShaderType}
use Rattle.wgsl_shader_type.specs.declared.tree.ShaderType.TheVariants as v
use Rattle.wgsl_shader_type.specs.declared.tree.ShaderType.TheOpen.{ShaderType-F}
use Rattle.wgsl_shader_type.specs.Alike.{same}
use Rattle.wgsl_shader_type.specs.Rank.{rank_of, rank_layer}
use Rattle.wgsl_shader_type.specs.Conversion.{Step, Path, Converts}
use Rattle.wgsl_shader_type.specs.Class.{bool_layer, integer_layer, float_layer, is_bool, is_integer, is_numeric, is_scalar, vector_layer, is_vector}
use Rattle.wgsl_shader_type.proofs.Ranks.{rank_out}
use Rattle.wgsl_type_operators.specs.Operator.{is_arithmetic, is_logical}
use Rattle.wgsl_type_operators.specs.ResultOf.{component, in_vector, by_shape, binary_result}

abbrev pub IsNoVector : ShaderType → Type 0
IsNoVector t = (n : ℕ) (c : ShaderType) → t ≡ v.Vec n c → ⊥

-- ---- the result by shapes

by_vectors : (operator : BinaryOperator) (n m : ℕ) (a b : ShaderType)
    → binary_result operator (v.Vec n a) (v.Vec m b) ≡ cond ((n == m) && not (is_logical operator)) (in_vector n (component operator a b)) None
by_vectors operator n m a b = λ i. by_shape operator (v.Vec n a) (v.Vec m b) (v.outs-Vec n a i) (v.outs-Vec m b i)

pub binary_of_vectors : (operator : BinaryOperator) (n m : ℕ) (a b : ShaderType)
    → binary_result operator (v.Vec n a) (v.Vec m b) ≡ cond ((n == m) && not (is_logical operator)) (in_vector n (component operator a b)) None
binary_of_vectors = by_vectors

vector_left : (operator : BinaryOperator) (left right a : ShaderType) (n : ℕ) (y : ShaderType-F ShaderType) → IsNoVector (roll-ShaderType y)
    → by_shape operator left right (ShaderType-F.Vec n a) y ≡ cond (is_arithmetic operator) (in_vector n (component operator a right)) None
vector_left operator left right a n (ShaderType-F.Vec m b) flat = absurd (flat m b (v.rolls-Vec m b))
vector_left operator left right a n y flat = refl

pub binary_of_vector_left : (operator : BinaryOperator) (n : ℕ) (a right : ShaderType) → IsNoVector right
    → binary_result operator (v.Vec n a) right ≡ cond (is_arithmetic operator) (in_vector n (component operator a right)) None
binary_of_vector_left operator n a right flat =
    ap (λ x. by_shape operator (v.Vec n a) right x (out-ShaderType right)) (v.outs-Vec n a)
    ∙ vector_left operator (v.Vec n a) right a n (out-ShaderType right) (λ m c e. flat m c (sym (roll-out-ShaderType right) ∙ e))

vector_right : (operator : BinaryOperator) (left right b : ShaderType) (m : ℕ) (x : ShaderType-F ShaderType) → IsNoVector (roll-ShaderType x)
    → by_shape operator left right x (ShaderType-F.Vec m b) ≡ cond (is_arithmetic operator) (in_vector m (component operator left b)) None
vector_right operator left right b m (ShaderType-F.Vec n a) flat = absurd (flat n a (v.rolls-Vec n a))
vector_right operator left right b m x flat = refl

pub binary_of_vector_right : (operator : BinaryOperator) (left : ShaderType) (m : ℕ) (b : ShaderType) → IsNoVector left
    → binary_result operator left (v.Vec m b) ≡ cond (is_arithmetic operator) (in_vector m (component operator left b)) None
binary_of_vector_right operator left m b flat =
    ap (λ y. by_shape operator left (v.Vec m b) (out-ShaderType left) y) (v.outs-Vec m b)
    ∙ vector_right operator left (v.Vec m b) b m (out-ShaderType left) (λ n c e. flat n c (sym (roll-out-ShaderType left) ∙ e))

no_vectors : (operator : BinaryOperator) (left right : ShaderType) (x y : ShaderType-F ShaderType) → IsNoVector (roll-ShaderType x) → IsNoVector (roll-ShaderType y)
    → by_shape operator left right x y ≡ component operator left right
no_vectors operator left right (ShaderType-F.Vec n a) y flat flat' = absurd (flat n a (v.rolls-Vec n a))
no_vectors operator left right x (ShaderType-F.Vec m b) flat flat' = absurd (flat' m b (v.rolls-Vec m b))
no_vectors operator left right x y flat flat' = refl

pub binary_of_no_vectors : (operator : BinaryOperator) (left right : ShaderType) → IsNoVector left → IsNoVector right → binary_result operator left right ≡ component operator left right
binary_of_no_vectors operator left right flat flat' =
    no_vectors operator left right (out-ShaderType left) (out-ShaderType right)
    (λ n c e. flat n c (sym (roll-out-ShaderType left) ∙ e)) (λ n c e. flat' n c (sym (roll-out-ShaderType right) ∙ e))

-- ---- what is a vector, and what is none

is_flat : (x : ShaderType-F ShaderType) → vector_layer x ≡ false → IsNoVector (roll-ShaderType x)
is_flat x h n c e = true≢false (sym (ap vector_layer (v.outs-Vec n c)) ∙ ap is_vector (sym e) ∙ ap vector_layer (out-roll-ShaderType x) ∙ h)

pub flat_if_not : (t : ShaderType) → is_vector t ≡ false → IsNoVector t
flat_if_not t h n c e = true≢false (sym (ap vector_layer (v.outs-Vec n c)) ∙ ap is_vector (sym e) ∙ h)

abbrev pub Vectored : ShaderType → Type 0
Vectored t = (n : ℕ) × (c : ShaderType) × (t ≡ v.Vec n c)

vector_layer_or : (x : ShaderType-F ShaderType) → Vectored (roll-ShaderType x) ⊎ IsNoVector (roll-ShaderType x)
vector_layer_or (ShaderType-F.Vec n a) = inl (n, a, v.rolls-Vec n a)
vector_layer_or x = inr (is_flat x refl)

pub vector_or : (t : ShaderType) → Vectored t ⊎ IsNoVector t
vector_or t = subst (λ u. Vectored u ⊎ IsNoVector u) (roll-out-ShaderType t) (vector_layer_or (out-ShaderType t))

-- ---- conversions keep vectors

nothing : {A G : Type 0} (n : A) → None ≡ Some n → G
nothing n h = absurd (true≢false (sym (ap is_some h)))

guarded : {A : Type 0} (test : Bool) (o : Option A) (n : A) → cond test o None ≡ Some n → (test ≡ true) × (o ≡ Some n)
guarded true o n h = (refl, h)
guarded false o n h = nothing n h

from_layer : (n : ℕ) (a : ShaderType) (m : ℕ) (z : ShaderType-F ShaderType) → rank_layer same rank_of (ShaderType-F.Vec n a) z ≡ Some m
    → (b : ShaderType) × (roll-ShaderType z ≡ v.Vec n b) × (rank_of a b ≡ Some m)
from_layer n a m (ShaderType-F.Vec k b) h =
    let g = guarded (n == k) (rank_of a b) m h in
    (b, v.rolls-Vec k b ∙ ap (λ i. v.Vec i b) (sym (eqb-true n k g.0)), g.1)
from_layer n a m z h = nothing m h

pub from_vector : (n : ℕ) (a t : ShaderType) (m : ℕ) → rank_of (v.Vec n a) t ≡ Some m → (b : ShaderType) × (t ≡ v.Vec n b) × (rank_of a b ≡ Some m)
from_vector n a t m h =
    let r = from_layer n a m (out-ShaderType t) (ap (λ x. rank_layer same rank_of x (out-ShaderType t)) (sym (v.outs-Vec n a)) ∙ sym (rank_out (v.Vec n a) t) ∙ h) in
    (r.0, sym (roll-out-ShaderType t) ∙ r.1, r.2)

to_layer : (k : ℕ) (b : ShaderType) (m : ℕ) (x : ShaderType-F ShaderType) → rank_layer same rank_of x (ShaderType-F.Vec k b) ≡ Some m
    → (a : ShaderType) × (roll-ShaderType x ≡ v.Vec k a) × (rank_of a b ≡ Some m)
to_layer k b m (ShaderType-F.Vec n a) h =
    let g = guarded (n == k) (rank_of a b) m h in
    (a, v.rolls-Vec n a ∙ ap (λ i. v.Vec i a) (eqb-true n k g.0), g.1)
to_layer k b m x h = nothing m h

pub to_vector : (k : ℕ) (b s : ShaderType) (m : ℕ) → rank_of s (v.Vec k b) ≡ Some m → (a : ShaderType) × (s ≡ v.Vec k a) × (rank_of a b ≡ Some m)
to_vector k b s m h =
    let r = to_layer k b m (out-ShaderType s) (ap (λ z. rank_layer same rank_of (out-ShaderType s) z) (sym (v.outs-Vec k b)) ∙ sym (rank_out s (v.Vec k b)) ∙ h) in
    (r.0, sym (roll-out-ShaderType s) ∙ r.1, r.2)

-- ---- classes of scalars go down along conversions

-- what a class of scalars has to know
pub record GoesDown (K : ShaderType → Bool) : Type 0 where
  pub from_f32 : K v.F32 ≡ true → K v.AbstractFloat ≡ true
  pub from_f16 : K v.F16 ≡ true → K v.AbstractFloat ≡ true
  pub from_i32 : K v.I32 ≡ true → K v.AbstractInt ≡ true
  pub from_u32 : K v.U32 ≡ true → K v.AbstractInt ≡ true
  pub from_abstract_float : K v.AbstractFloat ≡ true → K v.AbstractInt ≡ true
  pub no_vector : (n : ℕ) (t : ShaderType) → K (v.Vec n t) ≡ false
  pub no_array : (t : ShaderType) (n : Option ℕ) → K (v.Array t n) ≡ false

goes_step : {K : ShaderType → Bool} → GoesDown K → {s t : ShaderType} {w : ℕ} → Step s t w → K t ≡ true → K s ≡ true
goes_step g Step.abstract_float_to_f32 h = g.from_f32 h
goes_step g Step.abstract_float_to_f16 h = g.from_f16 h
goes_step g Step.abstract_int_to_i32 h = g.from_i32 h
goes_step g Step.abstract_int_to_u32 h = g.from_u32 h
goes_step g Step.abstract_int_to_abstract_float h = g.from_abstract_float h
goes_step g (Step.in_vector {to = t} n step) h = absurd (true≢false (sym h ∙ g.no_vector n t))
goes_step g (Step.in_array {to = t} n step) h = absurd (true≢false (sym h ∙ g.no_array t n))

pub goes_down : {K : ShaderType → Bool} → GoesDown K → {s t : ShaderType} {sum : ℕ} → Path s t sum → K t ≡ true → K s ≡ true
goes_down g Path.stay h = h
goes_down g (Path.go step path) h = goes_step g step (goes_down g path h)

-- the classes at each variant that a step names
abbrev numeric_layer : ShaderType-F ShaderType → Bool
numeric_layer x = integer_layer x || float_layer x

abbrev scalar_layer : ShaderType-F ShaderType → Bool
scalar_layer x = bool_layer x || numeric_layer x

pub integer_goes : GoesDown is_integer
integer_goes = record {
  from_f32 = λ h. absurd (true≢false (sym h ∙ ap integer_layer v.outs-F32));
  from_f16 = λ h. absurd (true≢false (sym h ∙ ap integer_layer v.outs-F16));
  from_i32 = λ h. ap integer_layer v.outs-AbstractInt;
  from_u32 = λ h. ap integer_layer v.outs-AbstractInt;
  from_abstract_float = λ h. ap integer_layer v.outs-AbstractInt;
  no_vector = λ n t. ap integer_layer (v.outs-Vec n t);
  no_array = λ t n. ap integer_layer (v.outs-Array t n);
}

pub bool_goes : GoesDown is_bool
bool_goes = record {
  from_f32 = λ h. absurd (true≢false (sym h ∙ ap bool_layer v.outs-F32));
  from_f16 = λ h. absurd (true≢false (sym h ∙ ap bool_layer v.outs-F16));
  from_i32 = λ h. absurd (true≢false (sym h ∙ ap bool_layer v.outs-I32));
  from_u32 = λ h. absurd (true≢false (sym h ∙ ap bool_layer v.outs-U32));
  from_abstract_float = λ h. absurd (true≢false (sym h ∙ ap bool_layer v.outs-AbstractFloat));
  no_vector = λ n t. ap bool_layer (v.outs-Vec n t);
  no_array = λ t n. ap bool_layer (v.outs-Array t n);
}

pub numeric_goes : GoesDown is_numeric
numeric_goes = record {
  from_f32 = λ h. ap numeric_layer v.outs-AbstractFloat;
  from_f16 = λ h. ap numeric_layer v.outs-AbstractFloat;
  from_i32 = λ h. ap numeric_layer v.outs-AbstractInt;
  from_u32 = λ h. ap numeric_layer v.outs-AbstractInt;
  from_abstract_float = λ h. ap numeric_layer v.outs-AbstractInt;
  no_vector = λ n t. ap numeric_layer (v.outs-Vec n t);
  no_array = λ t n. ap numeric_layer (v.outs-Array t n);
}

pub scalar_goes : GoesDown is_scalar
scalar_goes = record {
  from_f32 = λ h. ap scalar_layer v.outs-AbstractFloat;
  from_f16 = λ h. ap scalar_layer v.outs-AbstractFloat;
  from_i32 = λ h. ap scalar_layer v.outs-AbstractInt;
  from_u32 = λ h. ap scalar_layer v.outs-AbstractInt;
  from_abstract_float = λ h. ap scalar_layer v.outs-AbstractInt;
  no_vector = λ n t. ap scalar_layer (v.outs-Vec n t);
  no_array = λ t n. ap scalar_layer (v.outs-Array t n);
}

-- a scalar is reached from itself, and from the abstract numbers
first_step : {s t : ShaderType} {w : ℕ} → Step s t w → is_scalar t ≡ true → (s ≡ v.AbstractInt) ⊎ (s ≡ v.AbstractFloat)
first_step Step.abstract_float_to_f32 h = inr refl
first_step Step.abstract_float_to_f16 h = inr refl
first_step Step.abstract_int_to_i32 h = inl refl
first_step Step.abstract_int_to_u32 h = inl refl
first_step Step.abstract_int_to_abstract_float h = inl refl
first_step (Step.in_vector {to = t} n step) h = absurd (true≢false (sym h ∙ scalar_goes.no_vector n t))
first_step (Step.in_array {to = t} n step) h = absurd (true≢false (sym h ∙ scalar_goes.no_array t n))

pub source_of : {s t : ShaderType} {sum : ℕ} → Path s t sum → is_scalar t ≡ true → (s ≡ t) ⊎ ((s ≡ v.AbstractInt) ⊎ (s ≡ v.AbstractFloat))
source_of Path.stay h = inl refl
source_of (Path.go step path) h = inr (first_step step (goes_down scalar_goes path h))

-- of two types that reach one scalar, one reaches the other
pub comparable : {s r t : ShaderType} {m n : ℕ} → Path s t m → Path r t n → is_scalar t ≡ true → Converts s r ⊎ Converts r s
comparable {s} {r} {t} {m} {n} p q h = ⊎_elim
    (λ (e : s ≡ t). inr (n, subst (λ u. Path r u n) (sym e) q))
    (λ a. ⊎_elim
    (λ (e : r ≡ t). inl (m, subst (λ u. Path s u m) (sym e) p))
    (λ b. abstract_ones a b)
    (source_of q h))
    (source_of p h)
  where
    up : Converts v.AbstractInt v.AbstractFloat
    up = (5, Path.go Step.abstract_int_to_abstract_float Path.stay)

    at : (x y : ShaderType) → s ≡ x → r ≡ y → Converts x y → Converts s r
    at x y e f c = subst (λ u. Converts u r) (sym e) (subst (Converts x) (sym f) c)

    back : (x y : ShaderType) → s ≡ x → r ≡ y → Converts y x → Converts r s
    back x y e f c = subst (λ u. Converts u s) (sym f) (subst (Converts y) (sym e) c)

    abstract_ones : (s ≡ v.AbstractInt) ⊎ (s ≡ v.AbstractFloat) → (r ≡ v.AbstractInt) ⊎ (r ≡ v.AbstractFloat) → Converts s r ⊎ Converts r s
    abstract_ones (inl e) (inl f) = inl (at v.AbstractInt v.AbstractInt e f (0, Path.stay))
    abstract_ones (inl e) (inr f) = inl (at v.AbstractInt v.AbstractFloat e f up)
    abstract_ones (inr e) (inl f) = inr (back v.AbstractFloat v.AbstractInt e f up)
    abstract_ones (inr e) (inr f) = inl (at v.AbstractFloat v.AbstractFloat e f (0, Path.stay))
