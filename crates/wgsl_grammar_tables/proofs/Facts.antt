-- What tests of lists and numbers say.
use Rattle.std.proofs.Common.{◌≡◌, ◌∙◌, refl, sym, ap, subst, ℕ, zero, suc, ◌<◌, Bool, true, false, not, cond, if◌then◌else◌, ◌&&◌, nat_lt, ◌==◌, List, [], ◌∷◌, drop, ◌⊎◌, inl, inr, Option, Some, None, arith}
use Rattle.std.specs.List.{list_all, list_any}
use Rattle.std.proofs.lemmas.Bool.{eqb-true, ltb-true, and_parts, or_cases, cases_eq, lt-ltb}
use Rattle.wgsl_grammar_tables.specs.Grammars.{Symbol, token, phrase, Rule, right_side}
use Rattle.wgsl_grammar_tables.specs.Fit.{Among, here, there}
use Rattle.wgsl_grammar_tables.specs.Listed.{code, member, beside}
use Rattle.wgsl_grammar_tables.specs.Tests.{all_below, has_item, has_some, begins_with}

pub some_is : {A : Type 0} {x y : A} → Some x ≡ Some y → x ≡ y
some_is e = cc

pub pair_is : {A B : Type 0} {a c : A} {b d : B} → a ≡ c → b ≡ d → ◌≡◌ {A = A × B} (a, b) (c, d)
pair_is {A} {B} {c = c} {b = b} e h = ap (λ (x : A). let q : A × B = (x, b) in q) e ∙ ap (λ (y : B). let q : A × B = (c, y) in q) h

pub not_both : (b : Bool) → b ≡ true → not b ≡ true → ⊥
not_both true e h = absurd cc
not_both false e h = absurd cc

pub each : {X : Type 0} (f : X → Bool) (xs : List X) (x : X) → list_all f xs ≡ true → Among xs x → f x ≡ true
each f [] x e am = elim am [ ]
each f (y ∷ ys) x e here = (and_parts (f y) (list_all f ys) e).0
each f (y ∷ ys) x e (there am) = each f ys x (and_parts (f y) (list_all f ys) e).1 am

pub among_or : (x : ℕ) (xs : List ℕ) (P : ℕ → Type 0) → P x → ((y : ℕ) → Among xs y → P y) → (y : ℕ) → Among (x ∷ xs) y → P y
among_or x xs P this more y here = this
among_or x xs P this more y (there am) = more y am

pub each_below : (n : ℕ) (f : ℕ → Bool) (i : ℕ) → all_below n f ≡ true → nat_lt i n ≡ true → f i ≡ true
each_below zero f i e lt = let h : i < zero = ltb-true i zero lt in absurd (omega arith)
each_below (suc n) f i e lt =
    let parts = and_parts (f n) (all_below n f) e in
    elim (cases_eq i n) [
      | inl same ↦ subst (λ k. f k ≡ true) (sym same) parts.0
      | inr other ↦ each_below n f i parts.1 (let h : i < suc n = ltb-true i (suc n) lt in lt-ltb i n (omega arith))
    ]

pub is_member : (x : ℕ) (xs : List ℕ) → member x xs ≡ true → Among xs x
is_member x [] e = absurd cc
is_member x (y ∷ ys) e =
    elim (or_cases (y == x) (member x ys) e) [
      | inl same ↦ subst (λ z. Among (y ∷ ys) z) (eqb-true y x same) here
      | inr more ↦ there (is_member x ys more)
    ]

pub is_item : (p d : ℕ) (qs : List (ℕ × ℕ)) → has_item p d qs ≡ true → Among qs (p, d)
is_item p d [] e = absurd cc
is_item p d (q ∷ qs) e =
    elim (or_cases ((q.0 == p) && (q.1 == d)) (has_item p d qs) e) [
      | inl same ↦
          let parts = and_parts (q.0 == p) (q.1 == d) same in
          subst (λ z. Among (q ∷ qs) z) (pair_is (eqb-true q.0 p parts.0) (eqb-true q.1 d parts.1)) here
      | inr more ↦ there (is_item p d qs more)
    ]

pub record Found {X : Type 0} (f : X → Bool) (xs : List X) : Type 0 where
  pub item : X
  pub among : Among xs item
  pub passes : f item ≡ true

pub found : {X : Type 0} (f : X → Bool) (xs : List X) → list_any f xs ≡ true → Found f xs
found f [] e = absurd cc
found f (x ∷ xs) e =
    elim (or_cases (f x) (list_any f xs) e) [
      | inl h ↦ record { item = x; among = here; passes = h }
      | inr more ↦ let m = found f xs more in record { item = m.item; among = there m.among; passes = m.passes }
    ]

pub some_of : (qs : List (ℕ × ℕ)) → has_some qs ≡ true → (q : ℕ × ℕ) × Among qs q
some_of [] e = absurd cc
some_of (q ∷ qs) e = (q, here)

pub guarded : {X : Type 0} (b : Bool) (xs : List X) (x : X) → Among (if b then xs else []) x → (b ≡ true) × Among xs x
guarded true xs x am = (refl, am)
guarded false xs x am = elim am [ ]

pub given : {X : Type 0} (b : Bool) (x y : X) → (if b then Some x else None) ≡ Some y → (b ≡ true) × (x ≡ y)
given true x y e = (refl, some_is e)
given false x y e = absurd cc

pub giving : {X : Type 0} (b : Bool) (x : X) → b ≡ true → (if b then Some x else None) ≡ Some x
giving true x e = refl
giving false x e = absurd cc

drop_none : {X : Type 0} (d : ℕ) (x : X) (xs : List X) → drop d [] ≡ x ∷ xs → ⊥
drop_none zero x xs e = absurd cc
drop_none (suc d) x xs e = absurd cc

pub rest_given : (b : Bool) (r : Rule) (d : ℕ) (x : Symbol) (ss : List Symbol) → drop d (right_side (if b then Some r else None)) ≡ x ∷ ss
    → (b ≡ true) × (drop d r.right ≡ x ∷ ss)
rest_given true r d x ss e = (refl, e)
rest_given false r d x ss e = absurd (drop_none d x ss e)

pub drop_nothing : {X : Type 0} (d : ℕ) → drop {A = X} d [] ≡ []
drop_nothing zero = refl
drop_nothing (suc d) = refl

pub drop_more : {X : Type 0} (d : ℕ) (xs : List X) {x : X} {ys : List X} → drop d xs ≡ x ∷ ys → drop (suc d) xs ≡ ys
drop_more zero [] e = absurd cc
drop_more zero (x ∷ xs) e = cc
drop_more (suc d) [] e = absurd cc
drop_more (suc d) (x ∷ xs) e = drop_more d xs e

pub among_dropped : {X : Type 0} (d : ℕ) (xs : List X) {x : X} {ys : List X} → drop d xs ≡ x ∷ ys → Among xs x
among_dropped zero [] e = absurd cc
among_dropped zero (x ∷ xs) {x = y} e = let same : x ≡ y = cc in subst (λ z. Among (x ∷ xs) z) same here
among_dropped (suc d) [] e = absurd cc
among_dropped (suc d) (x ∷ xs) e = there (among_dropped d xs e)

pub all_dropped : {X : Type 0} (f : X → Bool) (d : ℕ) (xs : List X) → list_all f xs ≡ true → list_all f (drop d xs) ≡ true
all_dropped f zero xs e = e
all_dropped f (suc d) [] e = refl
all_dropped f (suc d) (x ∷ xs) e = all_dropped f d xs (and_parts (f x) (list_all f xs) e).1

pub either_of : (b : Bool) (x t : ℕ) (o : Option ℕ) → cond b (Some x) o ≡ Some t → ((b ≡ true) × (x ≡ t)) ⊎ (o ≡ Some t)
either_of true x t o e = inl (refl, some_is e)
either_of false x t o e = inr e

pub is_beside : (a t : ℕ) (es : List (ℕ × ℕ)) → beside a es ≡ Some t → Among es (a, t)
is_beside a t [] e = absurd cc
is_beside a t (x ∷ es) e =
    elim (either_of (x.0 == a) x.1 t (beside a es) e) [
      | inl h ↦ subst (λ z. Among (x ∷ es) z) (pair_is (eqb-true x.0 a h.0) h.1) here
      | inr more ↦ there (is_beside a t es more)
    ]

pub code_is : (x y : Symbol) → code x ≡ code y → x ≡ y
code_is (token a) (token b) e = let same : a ≡ b = omega arith in ap token same
code_is (token a) (phrase b) e = absurd (omega arith)
code_is (phrase a) (token b) e = absurd (omega arith)
code_is (phrase a) (phrase b) e = let same : a ≡ b = omega arith in ap phrase same

pub begins_is : (x : Symbol) (l : List Symbol) → begins_with (code x) l ≡ true → (ss : List Symbol) × (l ≡ x ∷ ss)
begins_is x [] e = absurd cc
begins_is x (y ∷ ss) e = (ss, ap (λ z. z ∷ ss) (code_is y x (eqb-true (code y) (code x) e)))
