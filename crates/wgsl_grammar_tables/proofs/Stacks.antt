-- Stacks, and what actions say of the tables.
use Rattle.std.proofs.Common.{◌≡◌, ◌∙◌, ap, ℕ, zero, suc, List, [], ◌∷◌, drop, Option, Some, None}
use Rattle.wgsl_grammar_tables.specs.Grammars.{token}
use Rattle.wgsl_grammar_tables.specs.declared.shift_reduce.machine.Action.TheVariants.{Shift, Reduce}
use Rattle.wgsl_grammar_tables.specs.declared.shift_reduce.machine.Entry.{Entry}
use Rattle.wgsl_grammar_tables.specs.Machine.{Tables, reducing, shifting, action, popped}

pub some_is : {A : Type 0} {x y : A} → Some x ≡ Some y → x ≡ y
some_is e = cc

pub drop_more : {X : Type 0} (d : ℕ) (xs : List X) {x : X} {ys : List X} → drop d xs ≡ x ∷ ys → drop (suc d) xs ≡ ys
drop_more zero [] e = absurd cc
drop_more zero (x ∷ xs) e = cc
drop_more (suc d) [] e = absurd cc
drop_more (suc d) (x ∷ xs) e = drop_more d xs e

pub pair_is : {A B : Type 0} {a c : A} {b d : B} → a ≡ c → b ≡ d → ◌≡◌ {A = A × B} (a, b) (c, d)
pair_is {A} {B} {c = c} {b = b} e h = ap (λ (x : A). let q : A × B = (x, b) in q) e ∙ ap (λ (y : B). let q : A × B = (c, y) in q) h

pub cons_is : {X : Type 0} {a c : X} {b d : List X} → a ≡ c → b ≡ d → a ∷ b ≡ c ∷ d
cons_is {c = c} {b = b} e h = ap (λ x. x ∷ b) e ∙ ap (λ y. c ∷ y) h

pub popped_more : {V : Type 0} (n : ℕ) (es : List (Entry V)) (xs ys : List V) (e : Entry V) (below : List (Entry V))
    → (popped n es xs).0 ≡ e ∷ below → (popped n es xs).1 ≡ ys → popped (suc n) es xs ≡ (below, e.value ∷ ys)
popped_more zero [] xs ys e below is are = absurd cc
popped_more zero (x ∷ es) xs ys e below is are =
    let a : x ≡ e = cc in
    let b : es ≡ below = cc in
    pair_is b (cons_is (ap (λ (v : Entry _). v.value) a) are)
popped_more (suc n) [] xs ys e below is are = absurd cc
popped_more (suc n) (x ∷ es) xs ys e below is are = popped_more n es (x.value ∷ xs) ys e below is are

pub step_shifts : (a : Tables) (s c t : ℕ) → a.step s (token c) ≡ Some t → action a s (suc c) ≡ Shift t
step_shifts a s c t e = ap (λ o. shifting o (reducing (a.reduction s (suc c)))) e

shift_of : (o p : Option ℕ) (t : ℕ) → shifting o (reducing p) ≡ Shift t → o ≡ Some t
shift_of None None t e = absurd cc
shift_of None (Some p) t e = absurd cc
shift_of (Some s) p t e = cc

pub shifts_step : (a : Tables) (s c t : ℕ) → action a s (suc c) ≡ Shift t → a.step s (token c) ≡ Some t
shifts_step a s c t e = shift_of (a.step s (token c)) (a.reduction s (suc c)) t e

pub shift_is : {s t : ℕ} → Shift s ≡ Shift t → s ≡ t
shift_is e = cc

pub reduce_is : {s t : ℕ} → Reduce s ≡ Reduce t → s ≡ t
reduce_is e = cc
