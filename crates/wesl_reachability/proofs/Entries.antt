-- Entries of an outline, and the places at which they stand.
use Rattle.std.proofs.Common.{◌≡◌, refl, sym, ap, ◌∙◌, subst, ℕ, zero, suc, ◌+◌, ◌<◌, List, [], ◌∷◌, length, take, Option, Some, None, Bool, true, false, arith}
use Rattle.std.specs.Prelude.{slice_get, Vec, if◌then◌else◌}
use Rattle.std.specs.List.{filter}
use Rattle.std.specs.declared.alloc.Global.{Global}
use Rattle.wesl_chains.specs.Outlines.{Entry}
use Rattle.wesl_chains.proofs.Loops.{same_some}
use Rattle.wesl_mark.specs.declared.mark.MarkList.{MarkList}
use Rattle.wesl_mark.specs.declared.place.Place.{Place}
use Rattle.wesl_module_index.specs.Tables.{is_void, is_entry, place_number, entry_said, entries_said}

number_cons : (p : Place) (ps : List Place) (j : ℕ) (b : Bool) → is_void p.kind ≡ b → place_number (p ∷ ps) (suc j) ≡ (if b then place_number ps j else suc (place_number ps j))
number_cons p ps j true v = rw v refl
number_cons p ps j false v = rw v refl

-- an entry of the outline, and where it stands
pub record Stands (l : MarkList) (places : List Place) (uses : List (Vec ℕ Global)) (k : ℕ) (e : Entry) : Type 0 where
  pub place : ℕ
  pub what : Place
  pub references : Vec ℕ Global
  pub is_there : slice_get places place ≡ Some what
  pub no_void : is_void what.kind ≡ false
  pub are_uses : slice_get uses place ≡ Some references
  pub number : place_number places place ≡ k
  pub is_said : e ≡ entry_said l what references.items

module _ (l : MarkList) (p : Place) (ps : List Place) (u : Vec ℕ Global) (us : List (Vec ℕ Global)) (e : Entry) where
  later : (j k : ℕ) → Stands l ps us j e → ((i : ℕ) → place_number ps i ≡ j → place_number (p ∷ ps) (suc i) ≡ k) → Stands l (p ∷ ps) (u ∷ us) k e
  later j k s on = record {
    place = suc s.place;
    what = s.what;
    references = s.references;
    is_there = s.is_there;
    no_void = s.no_void;
    are_uses = s.are_uses;
    number = on s.place s.number;
    is_said = s.is_said;
  }

  at : (b : Bool) → is_void p.kind ≡ b → (k : ℕ) → slice_get (if b then entries_said l ps us else entry_said l p u.items ∷ entries_said l ps us) k ≡ Some e
      → ((j : ℕ) → slice_get (entries_said l ps us) j ≡ Some e → Stands l ps us j e) → Stands l (p ∷ ps) (u ∷ us) k e
  at true v k s on = later k k (on k s) (λ i n. number_cons p ps i true v ∙ n)
  at false v zero s on = record { place = 0; what = p; references = u; is_there = refl; no_void = v; are_uses = refl; number = refl; is_said = sym (same_some s) }
  at false v (suc k) s on = later k (suc k) (on k s) (λ i n. number_cons p ps i false v ∙ ap suc n)

pub entry_stands : (l : MarkList) (places : List Place) (uses : List (Vec ℕ Global)) (k : ℕ) (e : Entry) → slice_get (entries_said l places uses) k ≡ Some e → Stands l places uses k e
entry_stands l [] uses k e is = absurd (cc)
entry_stands l (p ∷ ps) [] k e is = absurd (cc)
entry_stands l (p ∷ ps) (u ∷ us) k e is = at l p ps u us e (is_void p.kind) refl k is (λ j s. entry_stands l ps us j e s)

-- at a place of no `;` stands an entry
pub entry_there : (l : MarkList) (places : List Place) (uses : List (Vec ℕ Global)) (j : ℕ) (p : Place) → length uses ≡ length places → slice_get places j ≡ Some p → is_void p.kind ≡ false
    → (references : Vec ℕ Global) × (slice_get uses j ≡ Some references) × (slice_get (entries_said l places uses) (place_number places j) ≡ Some (entry_said l p references.items))
entry_there l [] us j p e is v = absurd (cc)
entry_there l (q ∷ ps) [] j p e is v = absurd (omega (arith, e))
entry_there l (q ∷ ps) (u ∷ us) zero p e is v =
    let same : q ≡ p = same_some is in
    let f : is_void q.kind ≡ false = ap (λ z. is_void z.kind) same ∙ v in
    (u, refl, ap (λ b. slice_get (if b then entries_said l ps us else entry_said l q u.items ∷ entries_said l ps us) 0) f ∙ ap (λ z. Some (entry_said l z u.items)) same)
entry_there l (q ∷ ps) (u ∷ us) (suc j) p e is v =
    let x = entry_there l ps us j p (omega (arith, e)) is v in
    (x.0, x.1, by (is_void q.kind) refl ∙ x.2)
  where
    by : (b : Bool) → is_void q.kind ≡ b → slice_get (entries_said l (q ∷ ps) (u ∷ us)) (place_number (q ∷ ps) (suc j)) ≡ slice_get (entries_said l ps us) (place_number ps j)
    by true f = λ i. slice_get (if f i then entries_said l ps us else entry_said l q u.items ∷ entries_said l ps us) (number_cons q ps j true f i)
    by false f = λ i. slice_get (if f i then entries_said l ps us else entry_said l q u.items ∷ entries_said l ps us) (number_cons q ps j false f i)

-- places of entries have numbers of their own
pub same_entry : (places : List Place) (i j : ℕ) (x y : Place) → slice_get places i ≡ Some x → is_void x.kind ≡ false → slice_get places j ≡ Some y → is_void y.kind ≡ false
    → place_number places i ≡ place_number places j → i ≡ j
same_entry [] i j x y is v js w e = absurd (cc)
same_entry (p ∷ ps) zero zero x y is v js w e = refl
same_entry (p ∷ ps) zero (suc j) x y is v js w e =
    let f : is_void p.kind ≡ false = ap (λ z. is_void z.kind) (same_some is) ∙ v in
    let g : 0 ≡ suc (place_number ps j) = e ∙ number_cons p ps j false f in absurd (omega (arith, g))
same_entry (p ∷ ps) (suc i) zero x y is v js w e =
    let f : is_void p.kind ≡ false = ap (λ z. is_void z.kind) (same_some js) ∙ w in
    let g : suc (place_number ps i) ≡ 0 = sym (number_cons p ps i false f) ∙ e in absurd (omega (arith, g))
same_entry (p ∷ ps) (suc i) (suc j) x y is v js w e = ap suc (same_entry ps i j x y is v js w (by (is_void p.kind) refl))
  where
    by : (b : Bool) → is_void p.kind ≡ b → place_number ps i ≡ place_number ps j
    by true f = sym (number_cons p ps i true f) ∙ e ∙ number_cons p ps j true f
    by false f = let g : suc (place_number ps i) ≡ suc (place_number ps j) = sym (number_cons p ps i false f) ∙ e ∙ number_cons p ps j false f in omega (arith, g)
