-- Places are reached, and modules passed.
use Rattle.std.proofs.Common.{◌≡◌, refl, sym, ap, ◌∙◌, subst, ℕ, zero, suc, ◌+◌, ◌<◌, ◌≤◌, ◌⊎◌, inl, inr, List, [], ◌∷◌, ◌++◌, length, Option, Some, None, Bool, true, false, slice_get, is_some, arith, length-append}
use Rattle.std.specs.Prelude.{Vec, Result, Ok, Err, OnOk, IfOk}
use Rattle.std.specs.Option.{option_map}
use Rattle.std.specs.List.{Contains}
use Rattle.std.specs.declared.alloc.Global.{Global}
use Rattle.std.proofs.lemmas.List.Elements.{Contains-append_left, Contains-push, Contains-push_cases}
use Rattle.wgsl_base.proofs.Members.{in_none}
use Rattle.wesl_chains.proofs.Loops.{same_some}
use Rattle.wesl_mark.specs.declared.place.Place.{Place}
use Rattle.wesl_mark.specs.declared.place.Kind.{Kind}
use Rattle.wesl_mark.specs.declared.place.Kind.TheVariants.{Assertion}
use Rattle.wesl_module_index.specs.declared.module.Module.{Module}
use Rattle.wesl_module_index.specs.declared.modules.DeclarationId.{DeclarationId}
use Rattle.wesl_reachability.specs.declared.holding.Holding.{Holding}
use Rattle.wesl_reachability.specs.Cells.{Rows, cell, is_unset, PutsOne, SetsOne, Sets}
use Rattle.wesl_reachability.specs.Holding.{spot_of, Holds, IsPassed, HasPlace, HasModule, IsWork, StandsAt, Grows, Reaches, ReachesAll, ReachesKind, IsAssertion, HasAll, Asserts, Passes, Arrives, Answers, ReachesIf}
use Rattle.wesl_reachability.proofs.Cells.{same_or, there_put, some_put, was_set, not_set, kept_room, kept_set, only_set, set_there, same_cells}

-- ---- growing

pub grows_same : (h : Holding) → Grows h h
grows_same h = record { stays = λ m k x. x; room = λ m k x. x; keeps = λ m x. x; wide = λ m x. x; works = λ w. w; works_only = λ w. w; behind = λ i s x. x; longer = omega arith; rows = refl }

pub grows_then : {old mid new : Holding} → Grows old mid → Grows mid new → Grows old new
grows_then a b = record {
  stays = λ m k x. b.stays m k (a.stays m k x);
  room = λ m k x. b.room m k (a.room m k x);
  keeps = λ m x. b.keeps m (a.keeps m x);
  wide = λ m x. b.wide m (a.wide m x);
  works = λ w. b.works (a.works w);
  works_only = λ w. b.works_only (a.works_only w);
  behind = λ i s x. b.behind i s (a.behind i s x);
  longer = (let x = a.longer in let y = b.longer in omega (arith, x, y));
  rows = b.rows ∙ a.rows;
}

get_front : {X : Type 0} (xs ys : List X) (i : ℕ) (x : X) → slice_get xs i ≡ Some x → slice_get (xs ++ ys) i ≡ Some x
get_front [] ys i x is = absurd (cc)
get_front (y ∷ xs) ys zero x is = is
get_front (y ∷ xs) ys (suc i) x is = get_front xs ys i x is

-- ---- a place is reached

module _ (spot : DeclarationId) (old new : Holding) (work : new.work.items ≡ old.work.items ++ spot ∷ []) (passed : new.passed ≡ old.passed) where
  pub reached_first : Sets old.reached.items spot.«module» spot.place new.reached.items true → Reaches spot old new
  reached_first s = record {
    grows = record {
      stays = kept_set old.reached.items spot.«module» spot.place new.reached.items s.puts;
      room = kept_room old.reached.items spot.«module» spot.place true new.reached.items s.puts;
      keeps = λ m h. ap (λ v. slice_get v.items m) passed ∙ h;
      wide = λ m h. ap (λ v. is_some (slice_get v.items m)) passed ∙ h;
      works = λ w m k h. subst (λ l. Contains l (spot_of m k)) (sym work) (elim (only_set old.reached.items spot.«module» spot.place new.reached.items s.puts m k h) [
        | inl x ↦ Contains-append_left old.work.items (spot ∷ []) (spot_of m k) (w m k x)
        | inr x ↦ subst (λ v. Contains (old.work.items ++ spot ∷ []) v) (λ i. record { «module» = sym x.0 i; place = sym x.1 i }) (Contains-push old.work.items spot)
      ]);
      works_only = λ w x c. elim (Contains-push_cases old.work.items spot x (subst (λ l. Contains l x) work c)) [
        | inl y ↦ kept_set old.reached.items spot.«module» spot.place new.reached.items s.puts x.«module» x.place (w x y)
        | inr e ↦ subst (λ y. Holds new y.«module» y.place) e
            (set_there old.reached.items spot.«module» spot.place new.reached.items s.puts (ap is_some (not_set (cell old.reached.items spot.«module» spot.place) s.told)))
      ];
      behind = λ i x is. ap (λ l. slice_get l i) work ∙ get_front old.work.items (spot ∷ []) i x is;
      longer = (let e : length new.work.items ≡ length (old.work.items ++ spot ∷ []) = ap length work in let f = length-append old.work.items (spot ∷ []) in omega (arith, e, f));
      rows = s.rows;
    };
    held = set_there old.reached.items spot.«module» spot.place new.reached.items s.puts;
    only = λ m k h. elim (only_set old.reached.items spot.«module» spot.place new.reached.items s.puts m k h) [
      | inl x ↦ inl x
      | inr x ↦ inr (λ i. record { «module» = x.0 i; place = x.1 i })
    ];
    passed = passed;
  }

pub reached_again : (spot : DeclarationId) (old new : Holding) → new.work ≡ old.work → new.passed ≡ old.passed → Sets old.reached.items spot.«module» spot.place new.reached.items false → Reaches spot old new
reached_again spot old new work passed s = record {
  grows = record {
    stays = kept_set old.reached.items spot.«module» spot.place new.reached.items s.puts;
    room = kept_room old.reached.items spot.«module» spot.place true new.reached.items s.puts;
    keeps = λ m h. ap (λ v. slice_get v.items m) passed ∙ h;
    wide = λ m h. ap (λ v. is_some (slice_get v.items m)) passed ∙ h;
    works = λ w m k h. subst (λ v. Contains v.items (spot_of m k)) (sym work) (w m k (sym (same_cells old.reached.items spot.«module» spot.place new.reached.items s m k) ∙ h));
    works_only = λ w x c. same_cells old.reached.items spot.«module» spot.place new.reached.items s x.«module» x.place ∙ w x (subst (λ v. Contains v.items x) work c);
    behind = λ i x is. ap (λ v. slice_get v.items i) work ∙ is;
    longer = (let e : length new.work.items ≡ length old.work.items = ap (λ v. length v.items) work in omega (arith, e));
    rows = s.rows;
  };
  held = set_there old.reached.items spot.«module» spot.place new.reached.items s.puts;
  only = λ m k h. inl (sym (same_cells old.reached.items spot.«module» spot.place new.reached.items s m k) ∙ h);
  passed = passed;
}

-- ---- places are reached, one by one

pub none_reached : (h : Holding) → ReachesAll [] h h
none_reached h = record { grows = grows_same h; held = λ s c. absurd (in_none s c); only = λ m k x. inl x; passed = refl }

pub reached_more : (spots : List DeclarationId) (spot : DeclarationId) (old mid new : Holding) → ReachesAll spots old mid → Reaches spot mid new → ReachesAll (spots ++ spot ∷ []) old new
reached_more spots spot old mid new a r = record {
  grows = grows_then a.grows r.grows;
  held = λ s c room. elim (Contains-push_cases spots spot s c) [
    | inl d ↦ r.grows.stays s.«module» s.place (a.held s d room)
    | inr e ↦ subst (λ x. Holds new x.«module» x.place) e (r.held (subst (λ x. HasPlace mid x.«module» x.place) (sym e) (a.grows.room s.«module» s.place room)))
  ];
  only = λ m k h. elim (r.only m k h) [
    | inl x ↦ elim (a.only m k x) [ inl y ↦ inl y | inr y ↦ inr (Contains-append_left spots (spot ∷ []) (spot_of m k) y) ]
    | inr e ↦ inr (subst (λ x. Contains (spots ++ spot ∷ []) x) (sym e) (Contains-push spots spot))
  ];
  passed = r.passed ∙ a.passed;
}

less_or : (a b : ℕ) → a < b + 1 → (a < b) ⊎ (a ≡ b)
less_or zero zero h = inr refl
less_or zero (suc b) h = inl (omega arith)
less_or (suc a) zero h = absurd (omega (arith, h))
less_or (suc a) (suc b) h = elim (less_or a b (omega (arith, h))) [ inl f ↦ inl (omega (arith, f)) | inr f ↦ inr (ap suc f) ]

module _ (number : ℕ) (places : List Place) (kind : Kind) where
  pub no_kind : (h : Holding) → ReachesKind number places kind 0 h h
  no_kind h = record { grows = grows_same h; held = λ k less. absurd (omega (arith, less)); only = λ m k x. inl x; passed = refl }

  pub kind_reached : (n : ℕ) (old mid new : Holding) → ReachesKind number places kind n old mid → Reaches (spot_of number n) mid new → StandsAt places n kind → ReachesKind number places kind (n + 1) old new
  kind_reached n old mid new a r is = record {
    grows = grows_then a.grows r.grows;
    held = λ k less st room. elim (less_or k n less) [
      | inl l ↦ r.grows.stays number k (a.held k l st room)
      | inr e ↦ subst (λ j. Holds new number j) (sym e) (r.held (subst (λ j. HasPlace mid number j) e (a.grows.room number k room)))
    ];
    only = λ m k h. elim (r.only m k h) [
      | inl x ↦ a.only m k x
      | inr e ↦ inr (ap (λ s. s.«module») e, subst (λ j. StandsAt places j kind) (sym (ap (λ s. s.place) e)) is)
    ];
    passed = r.passed ∙ a.passed;
  }

  pub kind_other : (n : ℕ) (old mid : Holding) → ReachesKind number places kind n old mid → (StandsAt places n kind → ⊥) → ReachesKind number places kind (n + 1) old mid
  kind_other n old mid a other = record {
    grows = a.grows;
    held = λ k less st room. elim (less_or k n less) [
      | inl l ↦ a.held k l st room
      | inr e ↦ absurd (other (subst (λ j. StandsAt places j kind) e st))
    ];
    only = a.only;
    passed = a.passed;
  }

  pub kind_step : (n : ℕ) (old mid new : Holding) (b : Bool) → Answers b (StandsAt places n kind) → ReachesIf (spot_of number n) b mid new → ReachesKind number places kind n old mid → ReachesKind number places kind (n + 1) old new
  kind_step n old mid new true is r a = kind_reached n old mid new a r is
  kind_step n old mid new false is r a = subst (λ h. ReachesKind number places kind (n + 1) old h) (sym r) (kind_other n old mid a is)

-- what holds where a result is `Ok`
pub map_ok : {T E A B : Type 0} (r : Result T E) → (A → B) → OnOk r A → OnOk r B
map_ok (Ok x) f a = f a
map_ok (Err e) f a = a

pub map_if : {T E : Type 0} {P Q : T → Type 0} (r : Result T E) → ((x : T) → P x → Q x) → IfOk r P → IfOk r Q
map_if (Ok x) f p = f x p
map_if (Err e) f p = p

pub map_two : {T E A B C : Type 0} (r : Result T E) → (A → B → C) → OnOk r A → OnOk r B → OnOk r C
map_two (Ok x) f a b = f a b
map_two (Err e) f a b = a

-- ---- a module is passed

module _ (ms : List Module) (number : ℕ) (old new : Holding) (first : Bool) (s : SetsOne old.passed.items number new.passed.items first) where
  at_number : (m : ℕ) → ((m ≡ number) × (slice_get new.passed.items m ≡ option_map (λ x. true) (slice_get old.passed.items m))) ⊎ (slice_get new.passed.items m ≡ slice_get old.passed.items m)
  at_number m = elim (same_or m number) [
    | inl e ↦ inl (e, ap (slice_get new.passed.items) e ∙ s.puts.here ∙ ap (λ n. option_map (λ x. true) (slice_get old.passed.items n)) (sym e))
    | inr n ↦ inr (s.puts.others m n)
  ]

  keeps_set : (m : ℕ) → IsPassed old m → IsPassed new m
  keeps_set m h = elim (at_number m) [ inl e ↦ e.1 ∙ ap (option_map (λ x. true)) h | inr e ↦ e ∙ h ]

  keeps_wide : (m : ℕ) → HasModule old m → HasModule new m
  keeps_wide m h = elim (at_number m) [ inl e ↦ ap is_some e.1 ∙ some_put true (slice_get old.passed.items m) ∙ h | inr e ↦ ap is_some e ∙ h ]

  is_passed : HasModule old number → IsPassed new number
  is_passed room = s.puts.here ∙ there_put true (slice_get old.passed.items number) room

  only_number : (m : ℕ) → IsPassed new m → IsPassed old m ⊎ (m ≡ number)
  only_number m h = elim (at_number m) [ inl e ↦ inr e.0 | inr e ↦ inl (sym e ∙ h) ]

  -- where only this changes
  pub flag_grows : new.reached ≡ old.reached → new.work ≡ old.work → Grows old new
  flag_grows reached work = record {
    stays = λ m k h. ap (λ v. cell v.items m k) reached ∙ h;
    room = λ m k h. ap (λ v. is_some (cell v.items m k)) reached ∙ h;
    keeps = keeps_set;
    wide = keeps_wide;
    works = λ w m k h. subst (λ v. Contains v.items (spot_of m k)) (sym work) (w m k (sym (ap (λ v. cell v.items m k) reached) ∙ h));
    works_only = λ w x c. ap (λ v. cell v.items x.«module» x.place) reached ∙ w x (subst (λ v. Contains v.items x) work c);
    behind = λ i x is. ap (λ v. slice_get v.items i) work ∙ is;
    longer = (let e : length new.work.items ≡ length old.work.items = ap (λ v. length v.items) work in omega (arith, e));
    rows = ap (λ v. length v.items) reached;
  }

  -- nothing more is to be reached
  passed_alone : new.reached ≡ old.reached → new.work ≡ old.work → ((m k : ℕ) → IsPassed new m → IsAssertion ms m k → IsPassed old m) → Passes ms number old new
  passed_alone reached work before = record {
    grows = flag_grows reached work;
    passed = is_passed;
    asserts = λ has a m k p is. ap (λ v. cell v.items m k) reached ∙ a m k (before m k p is) is;
    only_held = λ m k h. inl (sym (ap (λ v. cell v.items m k) reached) ∙ h);
    only_passed = only_number;
  }

pub passed_again : (ms : List Module) (number : ℕ) (old new : Holding) → SetsOne old.passed.items number new.passed.items false → new.reached ≡ old.reached → new.work ≡ old.work → Passes ms number old new
passed_again ms number old new s reached work = passed_alone ms number old new false s reached work (λ m k p is. elim (same_or m number) [
  | inl e ↦ ap (slice_get old.passed.items) e ∙ sym (was_set (slice_get old.passed.items number) s.told) ∙ sym s.puts.here ∙ ap (slice_get new.passed.items) (sym e) ∙ p
  | inr n ↦ sym (s.puts.others m n) ∙ p
])

pub passed_none : (ms : List Module) (number : ℕ) (old new : Holding) → SetsOne old.passed.items number new.passed.items true → slice_get ms number ≡ None → new.reached ≡ old.reached → new.work ≡ old.work → Passes ms number old new
passed_none ms number old new s none reached work = passed_alone ms number old new true s reached work (λ m k p is. elim (same_or m number) [
  | inl e ↦ (let f : None ≡ Some is.0 = sym none ∙ ap (slice_get ms) (sym e) ∙ is.1 in absurd (cc))
  | inr n ↦ sym (s.puts.others m n) ∙ p
])

within : {X : Type 0} (xs : List X) (i : ℕ) (x : X) → slice_get xs i ≡ Some x → i < length xs
within [] i x is = absurd (cc)
within (y ∷ xs) zero x is = omega arith
within (y ∷ xs) (suc i) x is = let h = within xs i x is in omega (arith, h)

pub passed_first : (ms : List Module) (number : ℕ) (old mid new : Holding) (home : Module) → SetsOne old.passed.items number mid.passed.items true → mid.reached ≡ old.reached → mid.work ≡ old.work
    → slice_get ms number ≡ Some home → ReachesKind number home.places.items Assertion (length home.places.items) mid new → Passes ms number old new
passed_first ms number old mid new home s reached work is r =
    let one = flag_grows ms number old mid true s reached work in
    record {
      grows = grows_then one r.grows;
      passed = λ room. r.grows.keeps number (is_passed ms number old mid true s room);
      asserts = λ has a m k p st. elim (same_or m number) [
        | inl e ↦ (let same : st.0 ≡ home = same_some (sym st.1 ∙ ap (slice_get ms) e ∙ is) in
            let there : StandsAt home.places.items k Assertion = subst (λ (v : Module). StandsAt v.places.items k Assertion) same st.2 in
            let less = within home.places.items k there.place there.is_there in
            subst (λ n. Holds new n k) (sym e) (r.held k less there (one.room number k (has.places number k home is less))))
        | inr n ↦ r.grows.stays m k (one.stays m k (a m k (sym (s.puts.others m n) ∙ sym (ap (λ v. slice_get v.items m) r.passed) ∙ p) st))
      ];
      only_held = λ m k h. elim (r.only m k h) [
        | inl x ↦ inl (sym (ap (λ v. cell v.items m k) reached) ∙ x)
        | inr x ↦ inr (x.0, (home, ap (slice_get ms) x.0 ∙ is, x.1))
      ];
      only_passed = λ m h. only_number ms number old mid true s m (sym (ap (λ v. slice_get v.items m) r.passed) ∙ h);
    }
