-- A chain comes to an import, and what the search has done stays done.
use Rattle.std.proofs.Common.{◌≡◌, refl, sym, ap, ◌∙◌, subst, ℕ, ◌⊎◌, inl, inr, List, [], ◌∷◌, ◌++◌, Option, Some, None, Bool, true, false}
use Rattle.std.specs.Prelude.{⊤, slice_get}
use Rattle.std.specs.List.{Contains}
use Rattle.std.proofs.lemmas.List.Elements.{Contains-push, Contains-push_cases, Contains-append_left}
use Rattle.wgsl_base.proofs.Members.{first_in, in_none}
use Rattle.wesl_chains.specs.Outlines.{Symbol, Finder}
use Rattle.wesl_chains.specs.Chains.{Step, stands, leads, next}
use Rattle.wesl_chains.proofs.Loops.{same_some}
use Rattle.wesl_module_index.specs.declared.module.Meaning.TheVariants.{Imported}
use Rattle.wesl_module_index.specs.declared.modules.Modules.{Modules}
use Rattle.wesl_module_index.specs.Loaded.{AreTabled}
use Rattle.wesl_name_resolution.specs.declared.denote.Via.{Via}
use Rattle.wesl_name_resolution.specs.Links.{symbol_via, IsMeant}
use Rattle.wesl_reachability.specs.declared.chains.Chains.{Chains}
use Rattle.wesl_reachability.specs.declared.chains.State.{State}
use Rattle.wesl_reachability.specs.declared.chains.State.TheVariants.{New, Met, Passed}
use Rattle.wesl_reachability.specs.declared.holding.Holding.{Holding}
use Rattle.wesl_reachability.specs.Cells.{Rows, cell, Differ}
use Rattle.wesl_reachability.specs.Holding.{IsPassed, Grows}
use Rattle.wesl_reachability.specs.Joining.{state_at, list_of, before_at, GoesOn, PutsState}
use Rattle.wesl_reachability.specs.Asking.{Waiting}
use Rattle.wesl_reachability.specs.Searching.{is_met, is_known, IsKnown, IsGone, IsStepOr, StepDone, Linked, Searched}
use Rattle.wesl_reachability.specs.Passing.{SameWays, IsPassing, PassesBefore}
use Rattle.wesl_reachability.proofs.Cells.{same_place}
use Rattle.wesl_reachability.proofs.Held.{grows_same, grows_then}
use Rattle.wesl_reachability.proofs.Linking.{Drops, Adds, linked_same, linked_dropped, linked_ends, linked_met, linked_goes_on, known_kept, gone_before, gone_kept, before_same, is_met_now, known_or}
use Rattle.wesl_reachability.proofs.Searching.{Moves, searched_on}

module _ (ms : Modules) (find : Finder) (flags : Rows Bool) where
  -- ---- an import is met

  pub searched_met : (h : Holding) (v : Via) (t : Symbol) → symbol_via ms v ≡ Some t → (old new : Chains) → state_at old v ≡ Some New → PutsState v Met old new
      → (waits more : List Waiting) → Adds waits (t, Some v) more → Searched ms find h old flags waits → Searched ms find h new flags more
  searched_met h v t is_v old new was p waits more a s =
      searched_on ms find h h old new waits more (record {
        grows = grows_same h;
        known = known_kept ms find v t is_v old new was p;
        gone = gone_kept ms find v t is_v old new was p;
        before = λ w x c. subst (λ l. Contains l x) (sym (before_same ms find v t is_v old new was p w)) c;
        waits_or = λ u b c. inl (a.on (u, b) c);
      }) flags s s.asserts (linked_met ms find v t is_v old new was p waits more a s.linked)
      (λ w u k is. elim (known_or ms find v t is_v old new was p w k) [
        | inl x ↦ inl x
        | inr e ↦ (let f : t ≡ u = same_some (sym is_v ∙ ap (symbol_via ms) (sym e) ∙ is) in
            let g : v ≡ w = sym e in
            inr (subst (λ x. Contains more x) (λ i. (f i, Some (g i))) a.there))
      ])
      (λ w x c g. gone_kept ms find v t is_v old new was p x (s.closed w x (subst (λ l. Contains l x) (before_same ms find v t is_v old new was p w) c) (gone_before ms find v t is_v old new was p w g)))
      (λ w g. s.gone w (gone_before ms find v t is_v old new was p w g))

  -- ---- a reference leads to an import that was met

  pub searched_dropped : (h : Holding) (c : Chains) (s t : Symbol) (v : Via) → IsMeant ms s v.«module» (Imported v.item) → symbol_via ms v ≡ Some t → next find s ≡ leads t → IsKnown c v
      → (waits left : List Waiting) → Drops waits (s, None) left → Searched ms find h c flags waits → Searched ms find h c flags left
  searched_dropped h c s t v is is_v step known waits left d a =
      searched_on ms find h h c c waits left (record {
        grows = grows_same h;
        known = λ w k. k;
        gone = λ w g. g;
        before = λ w x y. y;
        waits_or = λ u b y. elim (d.on (u, b) y) [
          | inl e ↦ (let at : next find u ≡ leads t = ap (λ x. next find x.0) e ∙ step in
              let b_none : b ≡ None = ap (λ x. x.1) e in
              let u_is : s ≡ u = sym (ap (λ x. x.0) e) in
              inr (subst (λ x. StepDone ms h c u b x) (sym at) (v, subst (λ x. IsMeant ms x v.«module» (Imported v.item)) u_is is, is_v, known, subst (λ x. IsStepOr c x v) (sym b_none) tt)))
          | inr x ↦ inl x
        ];
      }) flags a a.asserts (linked_dropped ms find waits left s d c a.linked) (λ w u k e. inl k) a.closed a.gone

  -- ---- an import leads to one that was met

  module _ (tabled : AreTabled ms find) (h : Holding) (old new : Chains) (from v : Via) (g : GoesOn ms from v old new) (s t : Symbol) (is : IsMeant ms s v.«module» (Imported v.item)) (is_v : symbol_via ms v ≡ Some t)
      (step : next find s ≡ leads t) (v_known : IsKnown old v) (waits left : List Waiting) (d : Drops waits (s, Some from) left) (there : Contains waits (s, Some from)) (a : Searched ms find h old flags waits) where
    from_is : symbol_via ms from ≡ Some s
    from_is = (a.linked.waiting s from there).0

    from_known : IsKnown old from
    from_known = (a.linked.waiting s from there).1

    state_same : (w : Via) → state_at new w ≡ state_at old w
    state_same w = ap (λ x. cell x.items w.«module» w.item) g.states

    linked : Linked ms find new left
    linked = linked_goes_on ms find tabled old new from v g s t step is_v waits left d a.linked from_is from_known v_known

    step_there : before_at new v ≡ before_at old v ++ from ∷ []
    step_there = g.steps.there (a.linked.befores v t is_v)

    before_or : (w x : Via) → Contains (before_at new w) x → Contains (before_at old w) x ⊎ ((w ≡ v) × (x ≡ from))
    before_or w x c = elim (same_place w.«module» w.item v.«module» v.item) [
      | inl e ↦ (let f : w ≡ v = (λ i. record { «module» = e.0 i; item = e.1 i }) in
          elim (Contains-push_cases (before_at old v) from x (subst (λ l. Contains l x) (ap (before_at new) f ∙ step_there) c)) [
            | inl y ↦ inl (subst (λ z. Contains (before_at old z) x) (sym f) y)
            | inr y ↦ inr (f, sym y)
          ])
      | inr n ↦ inl (subst (λ y. Contains (list_of y) x) (g.steps.others w.«module» w.item n) c)
    ]

    before_on : (w x : Via) → Contains (before_at old w) x → Contains (before_at new w) x
    before_on w x c = elim (same_place w.«module» w.item v.«module» v.item) [
      | inl e ↦ (let f : w ≡ v = (λ i. record { «module» = e.0 i; item = e.1 i }) in
          subst (λ l. Contains l x) (sym step_there ∙ ap (before_at new) (sym f)) (Contains-append_left (before_at old v) (from ∷ []) x (subst (λ z. Contains (before_at old z) x) f c)))
      | inr n ↦ subst (λ y. Contains (list_of y) x) (sym (g.steps.others w.«module» w.item n)) c
    ]

    from_before : Contains (before_at new v) from
    from_before = subst (λ l. Contains l from) (sym step_there) (Contains-push (before_at old v) from)

    moves : (now : Holding) (end : Chains) → Grows h now → SameWays new end → Moves ms find h old waits now end left
    moves now end grows ways = record {
      grows = grows;
      known = λ w k. ways.known w ∙ ap is_met (state_same w) ∙ k;
      gone = λ w k. ways.gone w (state_same w ∙ k);
      before = λ w x c. subst (λ y. Contains (list_of (cell y.items w.«module» w.item)) x) (sym ways.before) (before_on w x c);
      waits_or = λ u b y. elim (d.on (u, b) y) [
        | inl e ↦ (let at : next find u ≡ leads t = ap (λ x. next find x.0) e ∙ step in
            let b_is : b ≡ Some from = ap (λ x. x.1) e in
            let u_is : s ≡ u = sym (ap (λ x. x.0) e) in
            let known : IsKnown end v = ways.known v ∙ ap is_met (state_same v) ∙ v_known in
            let leads_there : IsStepOr end (Some from) v = subst (λ y. Contains (list_of (cell y.items v.«module» v.item)) from) (sym ways.before) from_before in
            inr (subst (λ x. StepDone ms now end u b x) (sym at) (v, subst (λ x. IsMeant ms x v.«module» (Imported v.item)) u_is is, is_v, known, subst (λ x. IsStepOr end x v) (sym b_is) leads_there)))
        | inr x ↦ inl x
      ];
    }

    -- chains have not arrived there
    pub searched_waits : (IsGone old v → ⊥) → Searched ms find h new flags left
    searched_waits not_gone = searched_on ms find h h old new waits left
        (moves h new (grows_same h) (record { before = refl; links = refl; known = λ w. refl; gone = λ w k. k; unmet = λ w e. e; room = λ m k r. r })) flags a a.asserts linked
        (λ w u k e. inl (sym (ap is_met (state_same w)) ∙ k))
        (λ w x c k. elim (before_or w x c) [
          | inl y ↦ state_same x ∙ a.closed w x y (sym (state_same w) ∙ k)
          | inr y ↦ absurd (not_gone (ap (state_at old) (sym y.0) ∙ sym (state_same w) ∙ k))
        ])
        (λ w k. a.gone w (sym (state_same w) ∙ k))

    passing : IsPassing ms h new (from ∷ [])
    passing = record {
      all = a.all;
      asserts = a.asserts;
      published = linked.published;
      before_known = linked.before_known;
      work_known = λ w c. elim (Contains-push_cases [] from w c) [ inl y ↦ absurd (in_none w y) | inr y ↦ ap is_met (state_same w) ∙ ap (is_known old) (sym y) ∙ from_known ];
      closed = λ w x c k. elim (before_or w x c) [
        | inl y ↦ inl (state_same x ∙ a.closed w x y (sym (state_same w) ∙ k))
        | inr y ↦ inr (subst (λ z. Contains (from ∷ []) z) (sym y.1) (first_in from []))
      ];
      gone = λ w k. a.gone w (sym (state_same w) ∙ k);
    }

    -- they have, and now they arrive at those that lead there
    pub searched_passes : (now : Holding) (end : Chains) → PassesBefore ms (from ∷ []) h new now end → Searched ms find now end flags left
    searched_passes now end p =
        let after = p.passing passing in
        searched_on ms find h now old end waits left (moves now end p.grows p.ways) flags a after.0.asserts (linked_same ms find left new end linked p.ways)
        (λ w u k e. inl (sym (ap is_met (state_same w)) ∙ sym (p.ways.known w) ∙ k))
        (λ w x c k. elim (after.0.closed w x c k) [ inl y ↦ y | inr y ↦ absurd (in_none x y) ])
        after.0.gone
