-- The names of a scope, one after another.
use Rattle.std.proofs.Common.{◌≡◌, refl, sym, ap, ◌∙◌, subst, ℕ, zero, suc, ◌+◌, ◌<◌, ◌⊎◌, inl, inr, List, [], ◌∷◌, ◌++◌, length, Bool, true, false, true≢false, Option, Some, None, slice_get, arith, append_assoc}
use Rattle.std.specs.Prelude.{if◌then◌else◌}
use Rattle.std.specs.Option.{is_some}
use Rattle.std.specs.List.{Contains}
use Rattle.std.specs.Str.{bytes_eq}
use Rattle.std.specs.HashMap.{get_by_text}
use Rattle.std.specs.Cmp.Lexicographic.{nat_list_eq_equiv}
use Rattle.std.proofs.lemmas.List.{map-append}
use Rattle.wgsl_base.proofs.Members.{same_bytes, bytes_same, first_in, later_in, in_cases, in_none, to_contains, from_contains}
use Rattle.wesl_chains.specs.Outlines.{Name}
use Rattle.wesl_linking_spec.specs.Loading.{AreDistinct, no_names, another, IsFirstAgain}
use Rattle.wesl_module_index.specs.declared.module.Meaning.{Meaning}
use Rattle.wesl_module_index.specs.Naming.{Scope, Meant, meaning_of, names_in, IsScope}
use Rattle.wesl_module_index.proofs.Bits.{get_before}

-- ---- one name more

turned : (b c d : Bool) (k l : Meaning) (o : Option Meaning) → (b ≡ true → c ≡ true → d ≡ true → ⊥)
    → b ≡ d → (if c then Some l else (if d then Some k else o)) ≡ (if b then Some k else (if c then Some l else o))
turned true true d k l o clash e = absurd (clash refl refl (sym e))
turned true false d k l o clash e = ap (λ t. if t then Some k else o) (sym e)
turned false true d k l o clash e = refl
turned false false d k l o clash e = ap (λ t. if t then Some k else o) (sym e)

not_here : (x y z : Name) (k : Meaning) (o : Option Meaning) → (if bytes_eq x z then Some k else o) ≡ None → bytes_eq x y ≡ true → bytes_eq y z ≡ true → ⊥
not_here x y z k o none same here =
    let too : bytes_eq x z ≡ true = nat_list_eq_equiv.congr x y z same ∙ here in
    let some : Some k ≡ None = ap (λ t. if t then Some k else o) (sym too) ∙ none in
    absurd (cc)

passed : (b : Bool) (k : Meaning) (o : Option Meaning) → (if b then Some k else o) ≡ None → o ≡ None
passed true k o e = absurd (cc)
passed false k o e = e

meaning_push : (ns : List Meant) (x : Name) (k : Meaning) (y : Name) → meaning_of x ns ≡ None → meaning_of y (ns ++ (x, k) ∷ []) ≡ (if bytes_eq x y then Some k else meaning_of y ns)
meaning_push [] x k y none = ap (λ t. if t then Some k else None) (nat_list_eq_equiv.symm y x)
meaning_push (n ∷ ns) x k y none =
    ap (λ t. if bytes_eq y n.0 then Some n.1 else t) (meaning_push ns x k y (passed (bytes_eq x n.0) n.1 (meaning_of x ns) none))
    ∙ turned (bytes_eq x y) (bytes_eq y n.0) (bytes_eq x y) k n.1 (meaning_of y ns) (λ a b c. not_here x y n.0 n.1 (meaning_of x ns) none a b) refl

pub absent : (ns : List Meant) (x : Name) → meaning_of x ns ≡ None → Contains (names_in ns) x → ⊥
absent [] x none c = in_none x c
absent (n ∷ ns) x none c = at (in_cases n.0 (names_in ns) x c) (absent ns x (passed (bytes_eq x n.0) n.1 (meaning_of x ns) none))
  where
    at : (n.0 ≡ x) ⊎ Contains (names_in ns) x → (Contains (names_in ns) x → ⊥) → ⊥
    at (inl e) more =
        let here : bytes_eq x n.0 ≡ true = ap (bytes_eq x) e ∙ bytes_same x in
        let some : Some n.1 ≡ None = ap (λ t. if t then Some n.1 else meaning_of x ns) (sym here) ∙ none in
        absurd (cc)
    at (inr c) more = more c

pub present : (ns : List Meant) (x : Name) (m : Meaning) → meaning_of x ns ≡ Some m → Contains (names_in ns) x
present [] x m e = absurd (cc)
present (n ∷ ns) x m e = at (bytes_eq x n.0) refl e (present ns x m)
  where
    at : (b : Bool) → bytes_eq x n.0 ≡ b → (if b then Some n.1 else meaning_of x ns) ≡ Some m → (meaning_of x ns ≡ Some m → Contains (names_in ns) x) → Contains (names_in (n ∷ ns)) x
    at true is e more = subst (Contains (names_in (n ∷ ns))) (sym (same_bytes x n.0 is)) (first_in n.0 (names_in ns))
    at false is e more = later_in x n.0 (names_in ns) (more e)

pub empty_scope : (scope : Scope) → ((x : Name) → get_by_text scope x ≡ None) → IsScope scope []
empty_scope scope none = record { means = none; distinct = no_names }

pub scope_added : (old new : Scope) (ns : List Meant) (x : Name) (k : Meaning) → get_by_text old x ≡ None
    → ((y : Name) → get_by_text new y ≡ (if bytes_eq x y then Some k else get_by_text old y)) → IsScope old ns → IsScope new (ns ++ (x, k) ∷ [])
scope_added old new ns x k none more s =
    let lacks : meaning_of x ns ≡ None = sym (s.means x) ∙ none in
    record {
      means = λ y. more y ∙ ap (λ o. if bytes_eq x y then Some k else o) (s.means y) ∙ sym (meaning_push ns x k y lacks);
      distinct = subst AreDistinct (sym (map-append (λ (n : Meant). n.0) ns ((x, k) ∷ []))) (another s.distinct (absent ns x lacks));
    }

there : (o : Option Meaning) → is_some o ≡ true → (m : Meaning) × (o ≡ Some m)
there None e = absurd (true≢false (sym e))
there (Some m) e = (m, refl)

pub scope_has : (scope : Scope) (ns : List Meant) (x : Name) → is_some (get_by_text scope x) ≡ true → IsScope scope ns → Contains (names_in ns) x
scope_has scope ns x some s = let m = there (get_by_text scope x) some in present ns x m.0 (sym (s.means x) ∙ m.1)

pub lacks_name : (o : Option Meaning) → is_some o ≡ false → o ≡ None
lacks_name None e = refl
lacks_name (Some m) e = absurd (true≢false e)

-- ---- names that stand once

last_cases : (xs : List Name) (z : Name) (i : ℕ) (x : Name) → slice_get (xs ++ z ∷ []) i ≡ Some x → (slice_get xs i ≡ Some x) ⊎ ((i ≡ length xs) × (z ≡ x))
last_cases [] z zero x e = let same : z ≡ x = cc in inr (refl, same)
last_cases [] z (suc i) x e = absurd (cc)
last_cases (y ∷ xs) z zero x e = inl e
last_cases (y ∷ xs) z (suc i) x e = elim (last_cases xs z i x e) [ inl h ↦ inl h | inr h ↦ inr (ap suc h.0, h.1) ]

holds : (xs : List Name) (i : ℕ) (x : Name) → slice_get xs i ≡ Some x → Contains xs x
holds xs i x e = to_contains xs i x e

pub one_place : (ns : List Name) → AreDistinct ns → (i j : ℕ) (x : Name) → slice_get ns i ≡ Some x → slice_get ns j ≡ Some x → i ≡ j
one_place ns no_names i j x e f = absurd (cc)
one_place ns (another {x = z} {xs = xs} d not) i j x e f = at (last_cases xs z i x e) (last_cases xs z j x f) (one_place xs d i j x)
  where
    at : (slice_get xs i ≡ Some x) ⊎ ((i ≡ length xs) × (z ≡ x)) → (slice_get xs j ≡ Some x) ⊎ ((j ≡ length xs) × (z ≡ x))
        → (slice_get xs i ≡ Some x → slice_get xs j ≡ Some x → i ≡ j) → i ≡ j
    at (inl h) (inl k) more = more h k
    at (inl h) (inr k) more = absurd (not (subst (Contains xs) (sym k.1) (holds xs i x h)))
    at (inr h) (inl k) more = absurd (not (subst (Contains xs) (sym h.1) (holds xs j x k)))
    at (inr h) (inr k) more = h.0 ∙ sym k.0

get_behind : (xs ys : List Name) (i : ℕ) (x : Name) → slice_get ys i ≡ Some x → slice_get (xs ++ ys) (length xs + i) ≡ Some x
get_behind [] ys i x e = let here : 0 + i ≡ i = omega arith in ap (slice_get ys) here ∙ e
get_behind (y ∷ xs) ys i x e = let here : suc (length xs) + i ≡ suc (length xs + i) = omega arith in ap (slice_get (y ∷ (xs ++ ys))) here ∙ get_behind xs ys i x e

within : (xs : List Name) (i : ℕ) (x : Name) → slice_get xs i ≡ Some x → i < length xs
within [] i x e = absurd (cc)
within (y ∷ xs) zero x e = omega arith
within (y ∷ xs) (suc i) x e = let h = within xs i x e in omega (arith, h)

-- no name stands among the first and among those behind them
pub apart : (xs ys : List Name) (x : Name) → AreDistinct (xs ++ ys) → Contains xs x → Contains ys x → ⊥
apart xs ys x d c e =
    let p = from_contains xs x c in
    let q = from_contains ys x e in
    let less = within xs p.0 x p.1 in
    let same = one_place (xs ++ ys) d p.0 (length xs + q.0) x (get_before xs ys p.0 x p.1) (get_behind xs ys q.0 x q.1) in
    absurd (omega (arith, less, same))

-- ---- the first that stands twice

-- it does so in a longer list
pub again_more : (ns more : List Name) (x : Name) → IsFirstAgain ns x → IsFirstAgain (ns ++ more) x
again_more ns more x f = record {
  before = f.before;
  behind = f.behind ++ more;
  whole = ap (λ l. l ++ more) f.whole ∙ append_assoc f.before (x ∷ f.behind) more;
  distinct = f.distinct;
  again = f.again;
}

pub again_here : (ns : List Name) (x : Name) → AreDistinct ns → Contains ns x → IsFirstAgain (ns ++ x ∷ []) x
again_here ns x d c = record { before = ns; behind = []; whole = refl; distinct = d; again = c }
