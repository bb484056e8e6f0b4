-- A rank that the cases give is the sum along each path, and where they give none there is no path.
use Rattle.std.proofs.Common.{◌≡◌, refl, sym, ap, ◌∙◌, subst, ℕ, ◌+◌, ◌==◌, Bool, true, false, cond, Option, Some, None, true≢false, eqb-true, eq-eqb, arith, zero-add, add_assoc, MatchOption}
use Rattle.std.specs.Option.{option_eq, is_some}
use Rattle.wgsl_shader_type.specs.declared.tree.ShaderType.{ShaderType, roll-ShaderType, out-ShaderType, out-roll-ShaderType, roll-out-ShaderType, map-ShaderType, para-roll-ShaderType, ind-ShaderType}
use Rattle.wgsl_shader_type.specs.declared.tree.ShaderType.TheVariants as v
use Rattle.wgsl_shader_type.specs.declared.tree.ShaderType.TheOpen.{ShaderType-F}
use Rattle.wgsl_shader_type.specs.Alike.{same, same_layer}
use Rattle.wgsl_shader_type.specs.Rank.{rank_of, rank_layer}
use Rattle.wgsl_shader_type.specs.Conversion.{Step, Path, Converts, IsRank}
use Rattle.wgsl_shader_type.specs.Trees.{Shown, first}
use Rattle.wgsl_shader_type.specs.Equality.{same_layer-map, same_out, layer_true, layer_self, equal_if_same, same_self, option_true, option_self}

-- one layer
module _ {A B C : Type 0} (E : B → C → Bool) (R : B → C → Option ℕ) (f : A → B) where
  abbrev before : {D : Type 0} → (B → C → D) → A → C → D
  before g a c = g (f a) c

  rank_layer-map : (x : ShaderType-F A) (y : ShaderType-F C) → rank_layer E R (map-ShaderType A B f x) y ≡ rank_layer (λ a. E (f a)) (λ a. R (f a)) x y
  rank_layer-map (ShaderType-F.Struct x) (ShaderType-F.Struct y) =
      ap (λ b. cond b (Some 0) None) (same_layer-map E f (ShaderType-F.Struct x) (ShaderType-F.Struct y))
  rank_layer-map x y = refl

pub rank_rolled : (x : ShaderType-F ShaderType) (b : ShaderType) → rank_of (roll-ShaderType x) b ≡ rank_layer same rank_of x (out-ShaderType b)
rank_rolled x b =
    ap (λ f. f b) (para-roll-ShaderType (ShaderType → Option ℕ) (λ x t. rank_layer (λ pair y. same pair.0 y) (λ pair y. pair.1 y) x (out-ShaderType t)) x)
    ∙ rank_layer-map {A = ShaderType} (λ (pair : ShaderType × (ShaderType → Option ℕ)) y. same pair.0 y) (λ pair y. pair.1 y) (λ t. (t, rank_of t)) x (out-ShaderType b)

pub rank_out : (a b : ShaderType) → rank_of a b ≡ rank_layer same rank_of (out-ShaderType a) (out-ShaderType b)
rank_out a b = ap (λ t. rank_of t b) (sym (roll-out-ShaderType a)) ∙ rank_rolled (out-ShaderType a) b

-- the rank at arrays and vectors
pub rank_of_arrays : (a b : ShaderType) (n m : Option ℕ) → rank_of (v.Array a n) (v.Array b m) ≡ cond (option_eq ◌==◌ n m) (rank_of a b) None
rank_of_arrays a b n m = rank_out (v.Array a n) (v.Array b m) ∙ (λ i. rank_layer same rank_of (v.outs-Array a n i) (v.outs-Array b m i))

pub rank_of_vectors : (a b : ShaderType) (n m : ℕ) → rank_of (v.Vec n a) (v.Vec m b) ≡ cond (n == m) (rank_of a b) None
rank_of_vectors a b n m = rank_out (v.Vec n a) (v.Vec m b) ∙ (λ i. rank_layer same rank_of (v.outs-Vec n a i) (v.outs-Vec m b i))

-- the rank at every other variant: zero of equal types, and none else
otherwise : (x z : ShaderType-F ShaderType)
    → (roll-ShaderType x ≡ v.AbstractInt → ⊥) → (roll-ShaderType x ≡ v.AbstractFloat → ⊥)
    → ((t : ShaderType) (n : Option ℕ) → roll-ShaderType x ≡ v.Array t n → ⊥) → ((n : ℕ) (t : ShaderType) → roll-ShaderType x ≡ v.Vec n t → ⊥)
    → rank_layer same rank_of x z ≡ cond (same_layer same x z) (Some 0) None
otherwise ShaderType-F.AbstractInt z i f a w = absurd (i v.rolls-AbstractInt)
otherwise ShaderType-F.AbstractFloat z i f a w = absurd (f v.rolls-AbstractFloat)
otherwise (ShaderType-F.Array t n) z i f a w = absurd (a t n (v.rolls-Array t n))
otherwise (ShaderType-F.Vec n t) z i f a w = absurd (w n t (v.rolls-Vec n t))
otherwise x z i f a w = refl

pub rank_otherwise : (a b : ShaderType)
    → (a ≡ v.AbstractInt → ⊥) → (a ≡ v.AbstractFloat → ⊥)
    → ((t : ShaderType) (n : Option ℕ) → a ≡ v.Array t n → ⊥) → ((n : ℕ) (t : ShaderType) → a ≡ v.Vec n t → ⊥)
    → rank_of a b ≡ cond (same a b) (Some 0) None
rank_otherwise a b i f r w =
    let back = sym (roll-out-ShaderType a) in
    rank_out a b
    ∙ otherwise (out-ShaderType a) (out-ShaderType b) (λ e. i (back ∙ e)) (λ e. f (back ∙ e)) (λ t n e. r t n (back ∙ e)) (λ n t e. w n t (back ∙ e))
    ∙ ap (λ s. cond s (Some 0) None) (sym (same_out a b))

-- what a rank under a test says
guarded : {A : Type 0} (test : Bool) (o : Option A) (n : A) → cond test o None ≡ Some n → (test ≡ true) × (o ≡ Some n)
guarded true o n h = (refl, h)
guarded false o n h = absurd (true≢false (sym (ap is_some h)))

pub in_some : (m n : ℕ) → Some m ≡ Some n → m ≡ n
in_some m n h = cc

-- a path under vectors, and under arrays
path_in_vector : {a b : ShaderType} {sum : ℕ} (n : ℕ) → Path a b sum → Path (v.Vec n a) (v.Vec n b) sum
path_in_vector n Path.stay = Path.stay
path_in_vector n (Path.go step path) = Path.go (Step.in_vector n step) (path_in_vector n path)

path_in_array : {a b : ShaderType} {sum : ℕ} (n : Option ℕ) → Path a b sum → Path (v.Array a n) (v.Array b n) sum
path_in_array n Path.stay = Path.stay
path_in_array n (Path.go step path) = Path.go (Step.in_array n step) (path_in_array n path)

-- one path after another
pub joined : {a b c : ShaderType} {m n : ℕ} → Path a b m → Path b c n → Path a c (m + n)
joined {a} {c = c} {n = n} Path.stay q = subst (Path a c) (sym (zero-add n)) q
joined {a} {c = c} {n = n} (Path.go {weight = w} {rest = r} step p) q = subst (Path a c) (sym (add_assoc w r n)) (Path.go step (joined p q))

one_step : {a b : ShaderType} (w : ℕ) → Step a b w → Path a b w
one_step {a} {b} w step = subst (Path a b) (search (arith)) (Path.go step Path.stay)

stay_at : {a b : ShaderType} (n : ℕ) → a ≡ b → Some 0 ≡ Some n → Path a b n
stay_at {a} n e h = subst (λ t. Path a t n) e (subst (Path a a) (in_some 0 n h) Path.stay)

-- a rank that a layer gives is the sum along a path, if those of its children are
module _ {A : Type 0} (E : A → ShaderType → Bool) (R : A → ShaderType → Option ℕ) (f : A → ShaderType)
    (equal : (x : A) (y : ShaderType) → E x y ≡ true → f x ≡ y) (child : (x : A) (y : ShaderType) (n : ℕ) → R x y ≡ Some n → Path (f x) y n) where
  abbrev made : ShaderType-F A → ShaderType
  made x = roll-ShaderType (map-ShaderType A ShaderType f x)

  reached : (a b a' b' : ShaderType) (m n : ℕ) → a ≡ a' → b ≡ b' → Some m ≡ Some n → Path a' b' m → Path a b n
  reached a b a' b' m n p q h path = subst (λ t. Path t b n) (sym p) (subst (λ t. Path a' t n) (sym q) (subst (Path a' b') (in_some m n h) path))

  layer_path : (x : ShaderType-F A) (y : ShaderType-F ShaderType) (n : ℕ) → rank_layer E R x y ≡ Some n → Path (made x) (roll-ShaderType y) n
  layer_path ShaderType-F.AbstractFloat ShaderType-F.F32 n h = reached _ _ v.AbstractFloat v.F32 1 n v.rolls-AbstractFloat v.rolls-F32 h (one_step 1 Step.abstract_float_to_f32)
  layer_path ShaderType-F.AbstractFloat ShaderType-F.F16 n h = reached _ _ v.AbstractFloat v.F16 2 n v.rolls-AbstractFloat v.rolls-F16 h (one_step 2 Step.abstract_float_to_f16)
  layer_path ShaderType-F.AbstractInt ShaderType-F.I32 n h = reached _ _ v.AbstractInt v.I32 3 n v.rolls-AbstractInt v.rolls-I32 h (one_step 3 Step.abstract_int_to_i32)
  layer_path ShaderType-F.AbstractInt ShaderType-F.U32 n h = reached _ _ v.AbstractInt v.U32 4 n v.rolls-AbstractInt v.rolls-U32 h (one_step 4 Step.abstract_int_to_u32)
  layer_path ShaderType-F.AbstractInt ShaderType-F.AbstractFloat n h = reached _ _ v.AbstractInt v.AbstractFloat 5 n v.rolls-AbstractInt v.rolls-AbstractFloat h (one_step 5 Step.abstract_int_to_abstract_float)
  layer_path ShaderType-F.AbstractInt ShaderType-F.F32 n h =
      reached _ _ v.AbstractInt v.F32 6 n v.rolls-AbstractInt v.rolls-F32 h (Path.go Step.abstract_int_to_abstract_float (one_step 1 Step.abstract_float_to_f32))
  layer_path ShaderType-F.AbstractInt ShaderType-F.F16 n h =
      reached _ _ v.AbstractInt v.F16 7 n v.rolls-AbstractInt v.rolls-F16 h (Path.go Step.abstract_int_to_abstract_float (one_step 2 Step.abstract_float_to_f16))
  layer_path (ShaderType-F.Array x k) (ShaderType-F.Array y j) n h =
      let g = guarded (option_eq ◌==◌ k j) (R x y) n h in
      reached _ _ (v.Array (f x) k) (v.Array y k) n n (v.rolls-Array (f x) k) (v.rolls-Array y j ∙ ap (v.Array y) (sym (option_true k j g.0))) refl (path_in_array k (child x y n g.1))
  layer_path (ShaderType-F.Vec k x) (ShaderType-F.Vec j y) n h =
      let g = guarded (k == j) (R x y) n h in
      reached _ _ (v.Vec k (f x)) (v.Vec k y) n n (v.rolls-Vec k (f x)) (v.rolls-Vec j y ∙ ap (λ i. v.Vec i y) (sym (eqb-true k j g.0))) refl (path_in_vector k (child x y n g.1))
  layer_path x y n h =
      let g = guarded (same_layer E x y) (Some 0) n h in
      stay_at n (ap roll-ShaderType (layer_true E f equal x y g.0)) g.1

abbrev PathIfRank : ShaderType → Type 0
PathIfRank t = (b : ShaderType) (n : ℕ) → rank_of t b ≡ Some n → Path t b n

pub path_if_rank : (a b : ShaderType) (n : ℕ) → rank_of a b ≡ Some n → Path a b n
path_if_rank = ind-ShaderType PathIfRank (λ x y is. subst (λ z. PathIfRank (roll-ShaderType z)) is (λ b n h.
    let shown : Shown PathIfRank → ShaderType = first PathIfRank in
    let layer = map-ShaderType (Shown PathIfRank) ShaderType shown y in
    subst (λ t. Path (roll-ShaderType layer) t n) (roll-out-ShaderType b)
    (layer_path (λ p. same (shown p)) (λ p. rank_of (shown p)) shown (λ p. equal_if_same (shown p)) (λ p. p.1) y (out-ShaderType b) n
    (sym (rank_layer-map same rank_of shown y (out-ShaderType b)) ∙ sym (rank_rolled layer b) ∙ h))))

-- a type has rank 0 to itself
module _ {A : Type 0} (E : A → ShaderType → Bool) (R : A → ShaderType → Option ℕ) (f : A → ShaderType)
    (equal : (x : A) → E x (f x) ≡ true) (child : (x : A) → R x (f x) ≡ Some 0) where
  layer_zero : (x : ShaderType-F A) → rank_layer E R x (map-ShaderType A ShaderType f x) ≡ Some 0
  layer_zero (ShaderType-F.Array x n) = λ i. cond (option_self n i) (child x i) None
  layer_zero (ShaderType-F.Vec n x) = λ i. cond (eq-eqb n n refl i) (child x i) None
  layer_zero x = ap (λ b. cond b (Some 0) None) (layer_self E f equal x)

abbrev HasZero : ShaderType → Type 0
HasZero t = rank_of t t ≡ Some 0

pub rank_self : (a : ShaderType) → rank_of a a ≡ Some 0
rank_self = ind-ShaderType HasZero (λ x y is. subst (λ z. HasZero (roll-ShaderType z)) is (
    let shown : Shown HasZero → ShaderType = first HasZero in
    let layer = map-ShaderType (Shown HasZero) ShaderType shown y in
    rank_rolled layer (roll-ShaderType layer)
    ∙ ap (rank_layer same rank_of layer) (out-roll-ShaderType layer)
    ∙ rank_layer-map same rank_of shown y layer
    ∙ layer_zero (λ p. same (shown p)) (λ p. rank_of (shown p)) shown (λ p. same_self (shown p)) (λ p. p.1) y))

-- a step, and then a rank, is the rank of both together: one layer of the type that the rank leads to
abbrev layer_rank : ShaderType-F ShaderType → ShaderType-F ShaderType → Option ℕ
layer_rank x z = rank_layer same rank_of x z

abbrev pub plus : ℕ → Option ℕ → Option ℕ
plus w None = None
plus w (Some n) = Some (w + n)

nothing : {A G : Type 0} (n : A) → None ≡ Some n → G
nothing n h = absurd (true≢false (sym (ap is_some h)))

from_f32 : (w : ℕ) (x : ShaderType-F ShaderType) → layer_rank x ShaderType-F.F32 ≡ Some (w + 0) → (z : ShaderType-F ShaderType) (n : ℕ) → layer_rank ShaderType-F.F32 z ≡ Some n → layer_rank x z ≡ Some (w + n)
from_f32 w x e ShaderType-F.F32 n h = e ∙ ap (plus w) h
from_f32 w x e z n h = nothing n h

from_f16 : (w : ℕ) (x : ShaderType-F ShaderType) → layer_rank x ShaderType-F.F16 ≡ Some (w + 0) → (z : ShaderType-F ShaderType) (n : ℕ) → layer_rank ShaderType-F.F16 z ≡ Some n → layer_rank x z ≡ Some (w + n)
from_f16 w x e ShaderType-F.F16 n h = e ∙ ap (plus w) h
from_f16 w x e z n h = nothing n h

from_i32 : (w : ℕ) (x : ShaderType-F ShaderType) → layer_rank x ShaderType-F.I32 ≡ Some (w + 0) → (z : ShaderType-F ShaderType) (n : ℕ) → layer_rank ShaderType-F.I32 z ≡ Some n → layer_rank x z ≡ Some (w + n)
from_i32 w x e ShaderType-F.I32 n h = e ∙ ap (plus w) h
from_i32 w x e z n h = nothing n h

from_u32 : (w : ℕ) (x : ShaderType-F ShaderType) → layer_rank x ShaderType-F.U32 ≡ Some (w + 0) → (z : ShaderType-F ShaderType) (n : ℕ) → layer_rank ShaderType-F.U32 z ≡ Some n → layer_rank x z ≡ Some (w + n)
from_u32 w x e ShaderType-F.U32 n h = e ∙ ap (plus w) h
from_u32 w x e z n h = nothing n h

from_abstract_float : (z : ShaderType-F ShaderType) (n : ℕ) → layer_rank ShaderType-F.AbstractFloat z ≡ Some n → layer_rank ShaderType-F.AbstractInt z ≡ Some (5 + n)
from_abstract_float ShaderType-F.AbstractFloat n h = ap (plus 5) h
from_abstract_float ShaderType-F.F32 n h = ap (plus 5) h
from_abstract_float ShaderType-F.F16 n h = ap (plus 5) h
from_abstract_float z n h = nothing n h

under_array : (a b : ShaderType) (w : ℕ) (k : Option ℕ) → ((c : ShaderType) (n : ℕ) → rank_of b c ≡ Some n → rank_of a c ≡ Some (w + n))
    → (z : ShaderType-F ShaderType) (n : ℕ) → layer_rank (ShaderType-F.Array b k) z ≡ Some n → layer_rank (ShaderType-F.Array a k) z ≡ Some (w + n)
under_array a b w k part (ShaderType-F.Array c j) n h =
    let g = guarded (option_eq ◌==◌ k j) (rank_of b c) n h in
    λ i. cond (g.0 i) (part c n g.1 i) None
under_array a b w k part z n h = nothing n h

under_vector : (a b : ShaderType) (w k : ℕ) → ((c : ShaderType) (n : ℕ) → rank_of b c ≡ Some n → rank_of a c ≡ Some (w + n))
    → (z : ShaderType-F ShaderType) (n : ℕ) → layer_rank (ShaderType-F.Vec k b) z ≡ Some n → layer_rank (ShaderType-F.Vec k a) z ≡ Some (w + n)
under_vector a b w k part (ShaderType-F.Vec j c) n h =
    let g = guarded (k == j) (rank_of b c) n h in
    λ i. cond (g.0 i) (part c n g.1 i) None
under_vector a b w k part z n h = nothing n h

-- the same of types whose layers are known
lifted : (a b : ShaderType) (w : ℕ) (x y : ShaderType-F ShaderType) → out-ShaderType a ≡ x → out-ShaderType b ≡ y
    → ((z : ShaderType-F ShaderType) (n : ℕ) → layer_rank y z ≡ Some n → layer_rank x z ≡ Some (w + n))
    → (c : ShaderType) (n : ℕ) → rank_of b c ≡ Some n → rank_of a c ≡ Some (w + n)
lifted a b w x y p q step c n h =
    rank_out a c ∙ ap (λ l. layer_rank l (out-ShaderType c)) p
    ∙ step (out-ShaderType c) n (ap (λ l. layer_rank l (out-ShaderType c)) (sym q) ∙ sym (rank_out b c) ∙ h)

step_adds : {a b : ShaderType} {w : ℕ} → Step a b w → (c : ShaderType) (n : ℕ) → rank_of b c ≡ Some n → rank_of a c ≡ Some (w + n)
step_adds Step.abstract_float_to_f32 = lifted v.AbstractFloat v.F32 1 _ _ v.outs-AbstractFloat v.outs-F32 (from_f32 1 ShaderType-F.AbstractFloat refl)
step_adds Step.abstract_float_to_f16 = lifted v.AbstractFloat v.F16 2 _ _ v.outs-AbstractFloat v.outs-F16 (from_f16 2 ShaderType-F.AbstractFloat refl)
step_adds Step.abstract_int_to_i32 = lifted v.AbstractInt v.I32 3 _ _ v.outs-AbstractInt v.outs-I32 (from_i32 3 ShaderType-F.AbstractInt refl)
step_adds Step.abstract_int_to_u32 = lifted v.AbstractInt v.U32 4 _ _ v.outs-AbstractInt v.outs-U32 (from_u32 4 ShaderType-F.AbstractInt refl)
step_adds Step.abstract_int_to_abstract_float = lifted v.AbstractInt v.AbstractFloat 5 _ _ v.outs-AbstractInt v.outs-AbstractFloat from_abstract_float
step_adds (Step.in_vector {from = a} {to = b} {weight = w} k step) =
    lifted (v.Vec k a) (v.Vec k b) w _ _ (v.outs-Vec k a) (v.outs-Vec k b) (under_vector a b w k (step_adds step))
step_adds (Step.in_array {from = a} {to = b} {weight = w} k step) =
    lifted (v.Array a k) (v.Array b k) w _ _ (v.outs-Array a k) (v.outs-Array b k) (under_array a b w k (step_adds step))

-- each path has the rank for its sum
pub rank_if_path : {a b : ShaderType} {n : ℕ} → Path a b n → rank_of a b ≡ Some n
rank_if_path {a} Path.stay = rank_self a
rank_if_path {b = b} (Path.go {rest = r} step path) = step_adds step b r (rank_if_path path)

pub rank_if_some : (a b : ShaderType) (n : ℕ) → rank_of a b ≡ Some n → IsRank a b n
rank_if_some a b n h = record {
  path = path_if_rank a b n h;
  least = λ sum path. let e : n ≡ sum = in_some n sum (sym h ∙ rank_if_path path) in omega arith;
}

-- what the cases give is the rank, and where they give none there is no path
pub rank_is_least : (a b : ShaderType) (o : Option ℕ) → o ≡ rank_of a b → MatchOption o (¬ Converts a b) (IsRank a b)
rank_is_least a b None h = λ converts. nothing converts.0 (h ∙ rank_if_path converts.1)
rank_is_least a b (Some n) h = rank_if_some a b n (sym h)

pub rank_if_least : (a b : ShaderType) (n : ℕ) → IsRank a b n → rank_of a b ≡ Some n
rank_if_least a b n r = rank_if_path r.path
