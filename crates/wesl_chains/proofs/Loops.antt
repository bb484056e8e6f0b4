-- Chains that are longer than there are targets come back; a chain comes to one thing.
use Rattle.std.proofs.Common.{◌≡◌, refl, sym, ap, ◌∙◌, subst, ℕ, zero, suc, ◌+◌, ◌<◌, ◌⊎◌, inl, inr, List, [], ◌∷◌, ◌++◌, length, Bool, true, false, Option, Some, None, arith, length-append}
use Rattle.std.specs.List.{Contains}
use Rattle.std.specs.Str.{bytes_eq}
use Rattle.std.proofs.lemmas.Slice.Eq.{bytes_eq-Decides}
use Rattle.wgsl_base.proofs.Members.{first_in, later_in, in_cases, in_none}
use Rattle.wesl_chains.specs.Outlines.{Path, Symbol, Finder}
use Rattle.wesl_chains.specs.Senses.{Sense, own, imported, bare}
use Rattle.wesl_chains.specs.Chains.{Step, stands, leads, lacks, hides, unknown, next, Outcome, declared_at, unloaded, missing, private, outcome_at, Leads, here, onto, Loops, Ends, comes_to, is_endless, by_own, by_item, by_bare}
use Rattle.wesl_chains.specs.Laws.{AreTargets, EndsAreOne, DenotesIsOne, LongChainsLoop, ChainsEnd}

-- ---- symbols are told apart

same_bytes : (x y : List ℕ) → (x ≡ y) ⊎ (x ≡ y → ⊥)
same_bytes x y = at (bytes_eq x y) refl
  where
    at : (b : Bool) → bytes_eq x y ≡ b → (x ≡ y) ⊎ (x ≡ y → ⊥)
    at true e = inl ((bytes_eq-Decides x y).0 e)
    at false e = inr (λ same. let t : bytes_eq x y ≡ true = (bytes_eq-Decides x y).1 same in absurd (cc))

same_symbol : (s t : Symbol) → (s ≡ t) ⊎ (s ≡ t → ⊥)
same_symbol s t = at (same_bytes s.home t.home) (same_bytes s.name t.name)
  where
    at : (s.home ≡ t.home) ⊎ (s.home ≡ t.home → ⊥) → (s.name ≡ t.name) ⊎ (s.name ≡ t.name → ⊥) → (s ≡ t) ⊎ (s ≡ t → ⊥)
    at (inl h) (inl n) = inl (λ k. record { home = h k; name = n k })
    at (inr h) n = inr (λ e. h (ap (λ u. u.home) e))
    at (inl h) (inr n) = inr (λ e. n (ap (λ u. u.name) e))

among : (s : Symbol) (xs : List Symbol) → Contains xs s ⊎ (Contains xs s → ⊥)
among s [] = inr (in_none s)
among s (x ∷ xs) = at (same_symbol x s) (among s xs)
  where
    at : (x ≡ s) ⊎ (x ≡ s → ⊥) → Contains xs s ⊎ (Contains xs s → ⊥) → Contains (x ∷ xs) s ⊎ (Contains (x ∷ xs) s → ⊥)
    at (inl e) r = inl (subst (λ y. Contains (x ∷ xs) y) e (first_in x xs))
    at (inr n) (inl c) = inl (later_in s x xs c)
    at (inr n) (inr m) = inr (λ c. elim (in_cases x xs s c) [ inl e ↦ n e | inr d ↦ m d ])

pub same_some : {A : Type 0} {x y : A} → Some x ≡ Some y → x ≡ y
same_some {x = x} e = ap (λ o. elim o [ Some z ↦ z | None ↦ x ]) e

-- ---- a list that is longer than one that has all of its members has one twice

record Without (x : Symbol) (xs : List Symbol) : Type 0 where
  rest : List Symbol
  shorter : length xs ≡ suc (length rest)
  others : (y : Symbol) → Contains xs y → (x ≡ y → ⊥) → Contains rest y

without : (x : Symbol) (xs : List Symbol) → Contains xs x → Without x xs
without x [] c = absurd (in_none x c)
without x (z ∷ xs) c = at (in_cases z xs x c) (without x xs)
  where
    at : (z ≡ x) ⊎ Contains xs x → (Contains xs x → Without x xs) → Without x (z ∷ xs)
    at (inl e) on = record {
      rest = xs;
      shorter = refl;
      others = λ y d n. elim (in_cases z xs y d) [ inl f ↦ absurd (n (sym e ∙ f)) | inr g ↦ g ];
    }
    at (inr d) on = let w = on d in record {
      rest = z ∷ w.rest;
      shorter = ap suc w.shorter;
      others = λ y h n. elim (in_cases z xs y h) [
        | inl f ↦ subst (λ v. Contains (z ∷ w.rest) v) f (first_in z w.rest)
        | inr g ↦ later_in y z w.rest (w.others y g n)
      ];
    }

data Twice : List Symbol → Type 0 where
  now : {x : Symbol} {xs : List Symbol} → Contains xs x → Twice (x ∷ xs)
  later : {x : Symbol} {xs : List Symbol} → Twice xs → Twice (x ∷ xs)

twice : (xs ts : List Symbol) → ((y : Symbol) → Contains xs y → Contains ts y) → length ts < length xs → Twice xs
twice [] ts all less = absurd (omega arith)
twice (x ∷ xs) ts all less = at (among x xs) (without x ts (all x (first_in x xs))) (λ us. twice xs us)
  where
    at : Contains xs x ⊎ (Contains xs x → ⊥) → Without x ts → ((us : List Symbol) → ((y : Symbol) → Contains xs y → Contains us y) → length us < length xs → Twice xs) → Twice (x ∷ xs)
    at (inl c) w on = now c
    at (inr n) w on =
        let e = w.shorter in
        let fewer : length w.rest < length xs = omega (arith, less) in
        later (on w.rest (λ y c. w.others y (all y (later_in y x xs c)) (λ same. n (subst (λ v. Contains xs v) (sym same) c))) fewer)

-- ---- chains

module _ (find : Finder) where
  pub leads_then : {s t u : Symbol} {ps qs : List Path} → Leads find s ps t → Leads find t qs u → Leads find s (ps ++ qs) u
  leads_then here more = more
  leads_then (onto e l) more = onto e (leads_then l more)

  pub leads_more : {s t u : Symbol} {ps : List Path} → Leads find s ps t → next find t ≡ leads u → Leads find s (ps ++ t.home ∷ []) u
  leads_more l e = leads_then l (onto e here)

  loops_on : {s t : Symbol} → next find s ≡ leads t → Loops find t → Loops find s
  loops_on {s = s} e l = record { there = l.there; before = s.home ∷ l.before; onward = onto e l.onward; first = l.first; more = l.more; back = l.back }

  pub loops_behind : {s t : Symbol} {ps : List Path} → Leads find s ps t → Loops find t → Loops find s
  loops_behind here l = l
  loops_behind (onto e c) l = loops_on e (loops_behind c l)

  -- the symbols that a chain comes to, one after another
  abbrev targets : {s u : Symbol} {ps : List Path} → Leads find s ps u → List Symbol
  targets here = []
  targets (onto {t = t} e l) = t ∷ targets l

  length_targets : {s u : Symbol} {ps : List Path} (l : Leads find s ps u) → length (targets l) ≡ length ps
  length_targets here = refl
  length_targets (onto e l) = ap suc (length_targets l)

  record Led (s t : Symbol) : Type 0 where
    first : Path
    more : List Path
    chain : Leads find s (first ∷ more) t

  target_led : {s u : Symbol} {ps : List Path} (l : Leads find s ps u) (x : Symbol) → Contains (targets l) x → Led s x
  target_led here x c = absurd (in_none x c)
  target_led {s = s} (onto {t = t} e l) x c = at (in_cases t (targets l) x c) (target_led l x)
    where
      at : (t ≡ x) ⊎ Contains (targets l) x → (Contains (targets l) x → Led t x) → Led s x
      at (inl same) on = subst (λ y. Led s y) same (record { first = s.home; more = []; chain = onto e here })
      at (inr d) on = let h = on d in record { first = s.home; more = h.first ∷ h.more; chain = onto e h.chain }

  twice_loops : {s u : Symbol} {ps : List Path} (l : Leads find s ps u) → Twice (targets l) → Loops find s
  twice_loops here tw = elim tw [ ]
  twice_loops {s = s} (onto {t = t} e l) tw = at refl tw (twice_loops l)
    where
      at : {ys : List Symbol} → ys ≡ t ∷ targets l → Twice ys → (Twice (targets l) → Loops find t) → Loops find s
      at is (now {x = x} {xs = xs} c) on =
          let same : x ≡ t = cc in
          let rest : xs ≡ targets l = cc in
          let d : Contains (targets l) x = subst (λ l. Contains l x) rest c in
          let h = target_led l t (subst (λ y. Contains (targets l) y) same d) in
          record { there = t; before = s.home ∷ []; onward = onto e here; first = h.first; more = h.more; back = h.chain }
      at is (later {x = x} {xs = xs} more) on =
          let rest : xs ≡ targets l = cc in loops_on e (on (subst Twice rest more))

  -- where each import leads to one of these symbols, a chain that is longer than they are many comes back
  module _ (ts : List Symbol) (bounded : AreTargets find ts) where
    targets_among : {s u : Symbol} {ps : List Path} (l : Leads find s ps u) (x : Symbol) → Contains (targets l) x → Contains ts x
    targets_among here x c = absurd (in_none x c)
    targets_among {s = s} (onto {t = t} e l) x c = at (in_cases t (targets l) x c) (targets_among l x)
      where
        at : (t ≡ x) ⊎ Contains (targets l) x → (Contains (targets l) x → Contains ts x) → Contains ts x
        at (inl same) on = subst (λ y. Contains ts y) same (bounded s t e)
        at (inr d) on = on d

    pub long_loops : {s u : Symbol} {ps : List Path} → Leads find s ps u → length ts < length ps → Loops find s
    long_loops {ps = ps} l more =
        let n = length_targets l in
        let less : length ts < length (targets l) = omega (arith, more, n) in
        twice_loops l (twice (targets l) ts (targets_among l) less)

    -- a chain is followed, so many steps yet
    follows : (n : ℕ) (s t : Symbol) (ps : List Path) → Leads find s ps t → length ts < length ps + n → (qs : List Path) × (r : Outcome) × Ends find s qs r
    follows zero s t ps l enough = let more : length ts < length ps = omega (arith, enough) in ([], missing s, is_endless (long_loops l more))
    follows (suc n) s t ps l enough = at (next find t) refl (λ u e. follows n s u (ps ++ t.home ∷ []) (leads_more l e) (longer u))
      where
        longer : (u : Symbol) → length ts < length (ps ++ t.home ∷ []) + n
        longer u = let e = length-append ps (t.home ∷ []) in omega (arith, e, enough)

        at : (x : Step) → next find t ≡ x → ((u : Symbol) → next find t ≡ leads u → (qs : List Path) × (r : Outcome) × Ends find s qs r) → (qs : List Path) × (r : Outcome) × Ends find s qs r
        at (stands k) e on = (ps ++ t.home ∷ [], declared_at t.home k, comes_to l (ap (outcome_at t) e))
        at (leads u) e on = on u e
        at lacks e on = (ps ++ [], missing t, comes_to l (ap (outcome_at t) e))
        at hides e on = (ps ++ [], private t, comes_to l (ap (outcome_at t) e))
        at unknown e on = (ps ++ [], unloaded t, comes_to l (ap (outcome_at t) e))

  -- ---- a chain ends at one place or at none

  -- the first link of a chain, where there is one
  record Begun (s u : Symbol) (ps : List Path) : Type 0 where
    to : Symbol
    rest : List Path
    whole : ps ≡ s.home ∷ rest
    is : next find s ≡ leads to
    chain : Leads find to rest u

  begun : {s u : Symbol} {ps : List Path} → Leads find s ps u → ((ps ≡ []) × (s ≡ u)) ⊎ Begun s u ps
  begun here = inl (refl, refl)
  begun (onto {t = t} {ps = ps} e l) = inr (record { to = t; rest = ps; whole = refl; is = e; chain = l })

  pub loops_shift : {s t : Symbol} → next find s ≡ leads t → Loops find s → Loops find t
  loops_shift {s = s} {t = t} e l = at (begun l.onward) (begun l.back)
    where
      at : ((l.before ≡ []) × (s ≡ l.there)) ⊎ Begun s l.there l.before → ((l.first ∷ l.more ≡ []) × (l.there ≡ l.there)) ⊎ Begun l.there l.there (l.first ∷ l.more) → Loops find t
      at (inr b) back = let is = b.is in let same : b.to ≡ t = cc in
          record { there = l.there; before = b.rest; onward = subst (λ x. Leads find x b.rest l.there) same b.chain; first = l.first; more = l.more; back = l.back }
      at (inl none) (inl never_empty) = let f = never_empty.0 in absurd (cc)
      at (inl none) (inr b) = let is = b.is in let here_too = none.1 in let same : b.to ≡ t = cc in
          record { there = l.there; before = b.rest; onward = subst (λ x. Leads find x b.rest l.there) same b.chain; first = l.first; more = l.more; back = l.back }

  -- where a chain ends, it doesn't go on
  stops_there : (s : Symbol) {t : Symbol} {v : List Path × Outcome} → outcome_at s (next find s) ≡ Some v → next find s ≡ leads t → ⊥
  stops_there s {v = v} h e = let g : outcome_at s (next find s) ≡ None = ap (outcome_at s) e in absurd (cc)

  no_loop : {s t : Symbol} {ps : List Path} {v : List Path × Outcome} → Leads find s ps t → outcome_at t (next find t) ≡ Some v → Loops find s → ⊥
  no_loop {s = s} {v = v} here h l = at (begun l.onward) (begun l.back)
    where
      at : ((l.before ≡ []) × (s ≡ l.there)) ⊎ Begun s l.there l.before → ((l.first ∷ l.more ≡ []) × (l.there ≡ l.there)) ⊎ Begun l.there l.there (l.first ∷ l.more) → ⊥
      at (inr b) back = stops_there s h b.is
      at (inl none) (inl never_empty) = let f = never_empty.0 in absurd (cc)
      at (inl none) (inr b) = stops_there s h (ap (next find) none.1 ∙ b.is)
  no_loop (onto e c) h l = no_loop c h (loops_shift e l)

  one_stop : {s t u : Symbol} {ps qs : List Path} {v w : List Path × Outcome} → Leads find s ps t → Leads find s qs u → outcome_at t (next find t) ≡ Some v → outcome_at u (next find u) ≡ Some w → (ps ≡ qs) × (t ≡ u)
  one_stop {s = s} {u = u} {qs = qs} here d h k = at (begun d)
    where
      at : ((qs ≡ []) × (s ≡ u)) ⊎ Begun s u qs → ([] ≡ qs) × (s ≡ u)
      at (inl none) = (sym none.0, none.1)
      at (inr b) = absurd (stops_there s h b.is)
  one_stop {s = s} {t = t} {u = u} {qs = qs} {w = w} (onto {t = x} {ps = ps} e c) d h k = at (begun d) (λ rest chain. one_stop {qs = rest} c chain h k)
    where
      at : ((qs ≡ []) × (s ≡ u)) ⊎ Begun s u qs → ((rest : List Path) → Leads find x rest u → (ps ≡ rest) × (t ≡ u)) → (s.home ∷ ps ≡ qs) × (t ≡ u)
      at (inl none) on = let g : outcome_at s (next find s) ≡ Some w = subst (λ y. outcome_at y (next find y) ≡ Some w) (sym none.1) k in absurd (stops_there s g e)
      at (inr b) on =
          let is = b.is in
          let same : b.to ≡ x = cc in
          let r = on b.rest (subst (λ y. Leads find y b.rest u) same b.chain) in
          (ap (λ l. s.home ∷ l) r.0 ∙ sym b.whole, r.1)

  -- a chain comes to one thing, by the same modules
  pub ends_once : {s : Symbol} {ps qs : List Path} {o p : Outcome} → Ends find s ps o → Ends find s qs p → (ps ≡ qs) × (o ≡ p)
  ends_once {s = s} (comes_to {t = t} {ps = ps} {more = more} {o = o} c h) (comes_to {t = u} {ps = qs} {more = again} {o = p} d k) =
      let r = one_stop c d h k in
      let v : Some (more, o) ≡ Some (again, p) = sym h ∙ ap (λ y. outcome_at y (next find y)) r.1 ∙ k in
      let w : (more, o) ≡ (again, p) = same_some v in
      ((λ i. r.0 i ++ (w i).0), ap (λ z. z.1) w)
  ends_once (comes_to c h) (is_endless l) = absurd (no_loop c h l)
  ends_once (is_endless l) (comes_to d k) = absurd (no_loop d k l)
  ends_once (is_endless l) (is_endless m) = (refl, refl)

pub ends_are_one : EndsAreOne
ends_are_one find s ps qs r t h k = ends_once find h k

pub long_chains_loop : LongChainsLoop
long_chains_loop find ts bounded s t ps l more = long_loops find ts bounded l more

pub chains_end : ChainsEnd
chains_end find ts bounded s = let enough : length ts < length (let none : List Path = [] in none) + suc (length ts) = omega arith in follows find ts bounded (suc (length ts)) s s [] here enough

-- ---- names

abbrev is_own : Sense → Option ℕ
is_own (own k) = Some k
is_own _ = None

abbrev is_imported : Sense → Option Symbol
is_imported (imported s) = Some s
is_imported _ = None

abbrev bare_name : Sense → Option (List ℕ)
bare_name (bare x) = Some x
bare_name _ = None

pub denotes_is_one : DenotesIsOne
denotes_is_one find m o u ps qs r t (by_own {k = k} e) (by_own {k = j} f) = (refl, ap (declared_at m) (same_some (ap is_own (sym e ∙ f))))
denotes_is_one find m o u ps qs r t (by_own {k = k} e) (by_item {s = s} f d) = let g : Some k ≡ None = ap is_own (sym e ∙ f) in absurd (cc)
denotes_is_one find m o u ps qs r t (by_own {k = k} e) (by_bare {x = x} f) = let g : Some k ≡ None = ap is_own (sym e ∙ f) in absurd (cc)
denotes_is_one find m o u ps qs r t (by_item {s = s} e c) (by_own {k = j} f) = let g : Some s ≡ None = ap is_imported (sym e ∙ f) in absurd (cc)
denotes_is_one find m o u ps qs r t (by_item {s = s} e c) (by_item {s = z} f d) = ends_once find c (subst (λ y. Ends find y qs t) (sym (same_some (ap is_imported (sym e ∙ f)))) d)
denotes_is_one find m o u ps qs r t (by_item {s = s} e c) (by_bare {x = x} f) = let g : Some s ≡ None = ap is_imported (sym e ∙ f) in absurd (cc)
denotes_is_one find m o u ps qs r t (by_bare {x = x} e) (by_own {k = j} f) = let g : Some x ≡ None = ap bare_name (sym e ∙ f) in absurd (cc)
denotes_is_one find m o u ps qs r t (by_bare {x = x} e) (by_item {s = s} f d) = let g : Some x ≡ None = ap bare_name (sym e ∙ f) in absurd (cc)
denotes_is_one find m o u ps qs r t (by_bare {x = x} e) (by_bare {x = y} f) = (refl, ap (λ z. missing (record { home = m; name = z })) (same_some (ap bare_name (sym e ∙ f))))
