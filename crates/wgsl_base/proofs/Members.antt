-- Members of lists, and where they stand.
use Rattle.std.proofs.Common.{◌≡◌, ℕ, zero, suc, ◌<◌, ◌⊎◌, inl, inr, List, [], ◌∷◌, map, length, get_or, Some, true, refl, ap, arith, slice_index_or}
use Rattle.std.specs.Prelude.{slice_get}
use Rattle.std.specs.List.{Contains}
use Rattle.std.specs.Str.{bytes_eq}
use Rattle.std.proofs.lemmas.Option.{get_or_from_slice_get, slice_get_within}
use Rattle.std.proofs.lemmas.Slice.Eq.{bytes_eq-Decides}

-- ---- members by their places

pub to_contains : {X : Type 0} (xs : List X) (i : ℕ) (x : X) → slice_get xs i ≡ Some x → Contains xs x
to_contains xs i x is = (i, slice_get_within xs i x is, get_or_from_slice_get xs i x x is)

pub at_place : {X : Type 0} (xs : List X) (i : ℕ) (x : X) → i < length xs → get_or xs i x ≡ x → slice_get xs i ≡ Some x
at_place [] i x h is = absurd (omega arith)
at_place (y ∷ xs) zero x h is = ap (λ t. Some t) is
at_place (y ∷ xs) (suc i) x h is = let less : i < length xs = omega arith in at_place xs i x less is

pub from_contains : {X : Type 0} (xs : List X) (x : X) → Contains xs x → (i : ℕ) × (slice_get xs i ≡ Some x)
from_contains xs x c = (c.0, at_place xs c.0 x c.1 c.2)

pub get_map : {X Y : Type 0} (f : X → Y) (xs : List X) (i : ℕ) (x : X) → slice_get xs i ≡ Some x → slice_get (map f xs) i ≡ Some (f x)
get_map f [] i x is = absurd (cc)
get_map f (y ∷ xs) zero x is = let e : y ≡ x = cc in ap (λ t. Some (f t)) e
get_map f (y ∷ xs) (suc i) x is = get_map f xs i x is

-- ---- the first, and those behind it

pub first_in : {X : Type 0} (x : X) (xs : List X) → Contains (x ∷ xs) x
first_in x xs = (zero, omega arith, refl)

pub later_in : {X : Type 0} (x y : X) (xs : List X) → Contains xs x → Contains (y ∷ xs) x
later_in x y xs h = let less = h.1 in (suc h.0, omega arith, h.2)

pub in_cases : {X : Type 0} (y : X) (ys : List X) (x : X) → Contains (y ∷ ys) x → (y ≡ x) ⊎ Contains ys x
in_cases y ys x h = at h.0 h.1 h.2
  where
    at : (k : ℕ) → k < length (y ∷ ys) → slice_index_or (y ∷ ys) k x ≡ x → (y ≡ x) ⊎ Contains ys x
    at zero less e = inl e
    at (suc k) less e = inr (k, omega arith, e)

pub in_none : {X : Type 0} (x : X) → Contains [] x → ⊥
in_none x h = let less = h.1 in absurd (omega arith)

-- ---- members of mapped lists

pub in_map : {X Y : Type 0} (f : X → Y) (xs : List X) (x : X) → Contains xs x → Contains (map f xs) (f x)
in_map f xs x c = let p = from_contains xs x c in to_contains (map f xs) p.0 (f x) (get_map f xs p.0 x p.1)

-- where a member of a mapped list comes from
pub from_map : {X Y : Type 0} (f : X → Y) (xs : List X) (y : Y) → Contains (map f xs) y → (x : X) × Contains xs x × (f x ≡ y)
from_map f [] y h = absurd (in_none y h)
from_map {X = X} f (x ∷ xs) y h = at (from_map f xs y) (in_cases (f x) (map f xs) y h)
  where
    at : (Contains (map f xs) y → (z : X) × Contains xs z × (f z ≡ y)) → (f x ≡ y) ⊎ Contains (map f xs) y → (z : X) × Contains (x ∷ xs) z × (f z ≡ y)
    at more (inl e) = (x, first_in x xs, e)
    at more (inr c) = let r = more c in (r.0, later_in r.0 x xs r.1, r.2)

-- ---- texts

pub same_bytes : (x y : List ℕ) → bytes_eq x y ≡ true → x ≡ y
same_bytes x y e = (bytes_eq-Decides x y).0 e

pub bytes_same : (x : List ℕ) → bytes_eq x x ≡ true
bytes_same x = (bytes_eq-Decides x x).1 refl
