-- What was gathered so far goes on with one place more.
use Rattle.std.proofs.Common.{◌≡◌, ◌∙◌, refl, sym, ap, ℕ, zero, suc, Bool, true, false, ◌==◌, if◌then◌else◌, ◌-◌, ◌<◌, ◌≤◌, max, List, [], ◌∷◌, Option, Some, None, arith}
use Rattle.std.proofs.lemmas.Bool.{eqb-true, eqb-false}
use Rattle.wgsl_path.specs.Paths.{across}
use Rattle.wgsl_base.specs.Tops.{first, with_first, without_first}
use Rattle.wgsl_grammar_tables.specs.declared.shift_reduce.machine.Entry.{Entry}
use Rattle.wgsl_grammar_tables.specs.Machine.{popped}
use Rattle.wgsl_lr_driver.specs.declared.phrase.Failure.{Failure}
use Rattle.wgsl_lr_driver.specs.declared.phrase.Phrase.{Phrase}
use Rattle.wgsl_lr_driver.specs.declared.gather.Extent.{Extent}
use Rattle.wgsl_lr_driver.proofs.Failing.{either_either}
use Rattle.wgsl_lr_driver.specs.Gathering.{either, extent_of, joined, extent_from, chosen, begun, below_taken, IsGathered, Gathers, Takes}

max_max : (a b c : ℕ) → max (max a b) c ≡ max a (max b c)
max_max a b c = omega arith

-- an extent before another
before : Extent → Option Extent → Extent
before a None = a
before a (Some e) = record { span = across a.span e.span; last = e.last; failure = either a.failure e.failure; depth = max a.depth e.depth }

with_both : Extent → Extent → Option Failure → ℕ → Extent
with_both a e f n = record { span = across a.span e.span; last = e.last; failure = f; depth = n }

module _ {P : Type 0} where
  joined_before : (a : Extent) (x : Phrase P) (o : Option Extent) → before (joined (Some a) x) o ≡ before a (Some (before (extent_of x) o))
  unfolding before with_both
  joined_before a x None = refl
  joined_before a x (Some e) =
      ap (λ f. with_both a e f (max (max a.depth x.depth) e.depth)) (either_either a.failure x.failure e.failure)
      ∙ ap (λ n. with_both a e (either a.failure (either x.failure e.failure)) n) (max_max a.depth x.depth e.depth)

  from_before : (a : Extent) (xs : List (Phrase P)) → extent_from (Some a) xs ≡ Some (before a (extent_from None xs))
  unfolding before
  from_before a [] = refl
  from_before a (x ∷ xs) =
      from_before (joined (Some a) x) xs ∙ ap Some (joined_before a x (extent_from None xs)) ∙ ap (λ o. Some (before a o)) (sym (from_before (extent_of x) xs))

  begun_is : (x : Phrase P) (o : Option Extent) → begun x o ≡ before (extent_of x) o
  unfolding before
  begun_is x None = refl
  begun_is x (Some e) = refl

  begins : (x : Phrase P) (xs : List (Phrase P)) (o : Option Extent) → o ≡ extent_from None xs → Some (begun x o) ≡ extent_from None (x ∷ xs)
  begins x xs o is = ap Some (begun_is x o ∙ ap (before (extent_of x)) is) ∙ sym (from_before (extent_of x) xs)

  chosen_mark : (absent : P) (place : ℕ) (done : List ℕ) (x : Phrase P) (xs : List (Phrase P)) → place ≡ 1 → chosen absent (place ∷ done) (x ∷ xs) ≡ chosen absent done xs
  chosen_mark absent place done x xs is = ap (λ k. chosen absent (k ∷ done) (x ∷ xs)) is

  chosen_part : (absent : P) (place : ℕ) (done : List ℕ) (x : Phrase P) (xs : List (Phrase P)) → (place ≡ 0 → ⊥) → (place ≡ 1 → ⊥)
      → chosen absent (place ∷ done) (x ∷ xs) ≡ x.part ∷ chosen absent done xs
  chosen_part absent place done x xs some more = grind arith

  -- The stack behind one phrase more, which was the uppermost: it is taken off, or is the lowest and stays with another value.
  first_is : (es : List (Entry (Phrase P))) (e : Entry (Phrase P)) → Some e ≡ first es → es ≡ e ∷ without_first es
  first_is [] e is = absurd cc
  first_is (x ∷ es) e is = let same : e ≡ x = cc in ap (λ y. y ∷ es) (sym same)

  pub under_more : (m : ℕ) (es : List (Entry (Phrase P))) (w : Entry (Phrase P)) → 0 < m → below_taken m (without_first (with_first es w)) ≡ without_first es
  under_more zero es w some = absurd (omega (arith, some))
  under_more (suc m) [] w some = refl
  under_more (suc m) (x ∷ es) w some = refl

  pub under_last : (m : ℕ) (es : List (Entry (Phrase P))) (w : Entry (Phrase P)) → m ≤ 0 → below_taken m (with_first es w) ≡ without_first es
  under_last zero [] w none = refl
  under_last zero (x ∷ es) w none = refl
  under_last (suc m) es w none = absurd (omega (arith, none))

  pub below_all : (n : ℕ) (es : List (Entry (Phrase P))) → (n ≡ 0 → ⊥) → below_taken n es ≡ es
  below_all zero es some = absurd (some refl)
  below_all (suc n) es some = refl

  pub gathers_none : (absent : P) (count : ℕ) (old : List (Entry (Phrase P))) → (count ≡ 0 → ⊥) → Gathers absent count old [] count old None []
  gathers_none absent count old some = record { values = []; taken = ap (λ l. popped count l []) (below_all count old some); extents = refl; chose = refl }

  module _ (absent : P) (place n m : ℕ) (es gs : List (Entry (Phrase P))) (from to : Option Extent) (xs ys : List P) (e : Entry (Phrase P)) where
    took : n ≡ suc m → Some e ≡ first es → below_taken m gs ≡ without_first es → (vs : List (Phrase P)) → popped m (below_taken m gs) (e.value ∷ vs) ≡ popped n (below_taken n es) vs
    took less was under vs =
        ap (λ l. popped m l (e.value ∷ vs)) under ∙ ap (λ l. popped (suc m) (below_taken (suc m) l) vs) (sym (first_is es e was))
        ∙ ap (λ k. popped k (below_taken k es) vs) (sym less)

    parts_chosen : (place ≡ 0 → ⊥) → (b : Bool) → (place == 1) ≡ b → ys ≡ (if b then xs else e.value.part ∷ xs) → (done : List ℕ) (vs : List (Phrase P)) → xs ≡ chosen absent done vs
        → ys ≡ chosen absent (place ∷ done) (e.value ∷ vs)
    parts_chosen present true mark put done vs was = put ∙ was ∙ sym (chosen_mark absent place done e.value vs (eqb-true place 1 mark))
    parts_chosen present false part put done vs was =
        put ∙ ap (λ l. e.value.part ∷ l) was ∙ sym (chosen_part absent place done e.value vs present (eqb-false place 1 part))

    pub gathers_more : 0 < n → m ≡ n - 1 → Some e ≡ first es → below_taken m gs ≡ without_first es → to ≡ Some (begun e.value from) → (place ≡ 0 → ⊥)
        → ys ≡ (if place == 1 then xs else e.value.part ∷ xs) → Takes absent place n m es gs from to xs ys
    gathers_more some less was under is present put count old done h = record {
      values = e.value ∷ h.values;
      taken = took (omega (arith, some, less)) was under h.values ∙ h.taken;
      extents = is ∙ begins e.value h.values from h.extents;
      chose = parts_chosen present (place == 1) refl put done h.values h.chose;
    }

  pub gathers_all : (absent : P) (count : ℕ) (pattern : List ℕ) (old new : List (Entry (Phrase P))) (extent : Extent) (parts : List P) (left : ℕ) (from : Option Extent)
      → Gathers absent count old pattern left new from parts → left ≡ 0 → from ≡ Some extent → IsGathered absent count pattern old new extent parts
  gathers_all absent count pattern old new extent parts left from h none is = record {
    values = h.values;
    taken = sym h.taken ∙ ap (λ k. popped k (below_taken k new) h.values) none;
    extents = sym is ∙ h.extents;
    chose = h.chose;
  }
