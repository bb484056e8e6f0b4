-- A table of names or references only grows.
use Rattle.std.proofs.Common.{◌≡◌, refl, sym, ap, ◌∙◌, ℕ, ◌<◌, suc, zero, ◌++◌, ◌∷◌, [], ◌⊎◌, inl, inr, List, Bool, true, false, true≢false, if◌then◌else◌, arith, length, slice_get, get_or, Option, Some, None}
use Rattle.std.specs.Prelude.{String, string_bytes, string_eq, option_map}
use Rattle.std.specs.Str.{bytes_eq}
use Rattle.std.specs.List.{list_any, position, IsDistinct}
use Rattle.std.specs.declared.alloc.Global.{Global}
use Rattle.indexmap.specs.IndexSet.{insert_key}
use Rattle.std.proofs.lemmas.Grind.{common_steps}
use Rattle.std.proofs.lemmas.Option.{gets, slice_get_within, slice_get-get_or, same_Some}
use Rattle.std.proofs.lemmas.List.Folds.{list_any_at}
use Rattle.std.proofs.lemmas.List.Quantifiers.{position-Some}
use Rattle.std.proofs.lemmas.Map.Keys.{apart_from_distinct}
use Rattle.std.proofs.lemmas.Slice.Eq.{bytes_eq-Decides}
use Rattle.wesl_mark.specs.Marks.{Name, name_at, Keeps, AreApart}

-- by induction, as `slice_get` has no lemma on `++` of its own
slice_get_append_left : {T : Type 0} (xs ys : List T) (k : ℕ) → k < length xs → slice_get (xs ++ ys) k ≡ slice_get xs k
slice_get_append_left xs ys k lt = grind (arith, common_steps, gets)

pub keeps_by_insert : {T : Type 0} (eq : T → T → Bool) (old new : List T) (x : T) → new ≡ insert_key eq old x → Keeps old new
keeps_by_insert eq old new x e k lt = go (list_any (eq x) old) e
  where
    go : (b : Bool) → new ≡ (if b then old else old ++ x ∷ []) → slice_get new k ≡ slice_get old k
    go true e = ap (λ ks. slice_get ks k) e
    go false e = ap (λ ks. slice_get ks k) e ∙ slice_get_append_left old (x ∷ []) k lt

pub keeps_unchanged : {T : Type 0} (old new : List T) → new ≡ old → Keeps old new
keeps_unchanged old new e k lt = ap (λ ks. slice_get ks k) e

-- what has a name stands within
pub named_within : (names : List (String Global)) (n : ℕ) (x : Name) → name_at names n ≡ Some x → n < length names
named_within names n x h = by (slice_get names n) refl h
  where
    by : (r : Option (String Global)) → slice_get names n ≡ r → option_map string_bytes r ≡ Some x → n < length names
    by None e k = absurd (cc)
    by (Some s) e k = slice_get_within names n s e

read : (names : List (String Global)) (n : ℕ) (x : Name) (d : String Global) → name_at names n ≡ Some x → string_bytes (get_or names n d) ≡ x
read names n x d h =
    let below = named_within names n x h in
    same_Some _ _ (ap (option_map string_bytes) (sym (slice_get-get_or names n d below)) ∙ h)

-- the name at the first place where it stands
pub first_named : (names : List (String Global)) (x : Name) (at : ℕ) → position (λ s. bytes_eq x (string_bytes s)) names ≡ Some at → name_at names at ≡ Some x
first_named [] x at h = absurd (cc)
first_named (d ∷ ds) x at h =
    let found = position-Some (λ s. bytes_eq x (string_bytes s)) (d ∷ ds) at d h in
    ap (option_map string_bytes) (slice_get-get_or (d ∷ ds) at d found.0) ∙ ap Some (sym ((bytes_eq-Decides x (string_bytes (get_or (d ∷ ds) at d))).0 found.1))

-- a name that does not stand there has no number
pub never_named : (names : List (String Global)) (x : Name) → list_any (λ s. bytes_eq x (string_bytes s)) names ≡ false → (n : ℕ) → name_at names n ≡ Some x → ⊥
never_named [] x none n h = absurd (cc)
never_named (d ∷ ds) x none n h =
    true≢false (sym (list_any_at (λ s. bytes_eq x (string_bytes s)) (d ∷ ds) n d (named_within (d ∷ ds) n x h) ((bytes_eq-Decides x (string_bytes (get_or (d ∷ ds) n d))).1 (sym (read (d ∷ ds) n x d h)))) ∙ none)

-- names that a table tells apart are of one number each
pub apart_by_distinct : (names : List (String Global)) → IsDistinct string_eq names → AreApart names
apart_by_distinct [] distinct m n x hm hn = absurd (cc)
apart_by_distinct (d ∷ ds) distinct m n x hm hn = by (compare m n)
  where
    compare : (a b : ℕ) → (a ≡ b) ⊎ ((a < b) ⊎ (b < a))
    compare zero zero = inl refl
    compare zero (suc b) = inr (inl (omega arith))
    compare (suc a) zero = inr (inr (omega arith))
    compare (suc a) (suc b) = elim (compare a b) [
      | inl same ↦ inl (ap suc same)
      | inr other ↦ elim other [ inl lt ↦ inr (inl (omega (arith, lt))) | inr lt ↦ inr (inr (omega (arith, lt))) ]
    ]

    never : (a b : ℕ) → a < b → name_at (d ∷ ds) a ≡ Some x → name_at (d ∷ ds) b ≡ Some x → ⊥
    never a b lt ha hb =
        let apart = apart_from_distinct string_eq (d ∷ ds) a b d distinct lt (named_within (d ∷ ds) b x hb) in
        true≢false (sym ((bytes_eq-Decides _ _).1 (read (d ∷ ds) a x d ha ∙ sym (read (d ∷ ds) b x d hb))) ∙ apart)

    by : (m ≡ n) ⊎ ((m < n) ⊎ (n < m)) → m ≡ n
    by c = elim c [
      | inl same ↦ same
      | inr other ↦ elim other [ inl lt ↦ absurd (never m n lt hm hn) | inr lt ↦ absurd (never n m lt hn hm) ]
    ]
