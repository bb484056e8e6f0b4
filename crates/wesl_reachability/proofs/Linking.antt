-- What is known of imports stays so, where chains join one another.
use Rattle.std.proofs.Common.{◌≡◌, refl, sym, ap, ◌∙◌, subst, ℕ, zero, suc, ◌+◌, ◌<◌, ◌≤◌, ◌⊎◌, inl, inr, List, [], ◌∷◌, ◌++◌, length, Option, Some, None, Bool, true, false, is_some, arith, append_assoc}
use Rattle.std.specs.Prelude.{◌≢◌, Vec}
use Rattle.std.specs.List.{Contains}
use Rattle.std.specs.Option.{option_map}
use Rattle.std.specs.declared.alloc.Global.{Global}
use Rattle.wgsl_base.proofs.Members.{first_in, later_in, in_cases, in_none}
use Rattle.std.proofs.lemmas.List.Elements.{Contains-push_cases, Contains-append_left, Contains-append_right, Contains-append_cases}
use Rattle.wesl_chains.specs.Outlines.{Symbol, Finder}
use Rattle.wesl_chains.specs.Chains.{next, stands, leads, Leads, here, onto}
use Rattle.wesl_chains.proofs.Loops.{same_some, leads_then, leads_more}
use Rattle.wesl_module_index.specs.declared.modules.Modules.{Modules}
use Rattle.wesl_module_index.specs.Loaded.{AreTabled}
use Rattle.wesl_name_resolution.specs.declared.denote.Via.{Via}
use Rattle.wesl_name_resolution.specs.Links.{symbol_via}
use Rattle.wesl_reachability.specs.declared.chains.Chains.{Chains}
use Rattle.wesl_reachability.specs.declared.chains.State.{State}
use Rattle.wesl_reachability.specs.declared.chains.State.TheVariants.{New, Met, Passed}
use Rattle.wesl_reachability.specs.Cells.{Rows, cell, HasRoom, Puts}
use Rattle.wesl_reachability.specs.Onward.{IsFar, onward_at, IsLast, LeadOn, StayIn, Shortens, FindsLast}
use Rattle.wesl_reachability.specs.Joining.{state_at, onward_of, list_of, before_at, AddsStep, GoesOn, PutsState}
use Rattle.wesl_reachability.specs.Asking.{Waiting}
use Rattle.wesl_reachability.specs.Searching.{is_met, is_known, IsKnown, IsGone, LeadsTo, Settled, Ended, Linked}
use Rattle.wesl_reachability.specs.Passing.{SameWays}
use Rattle.wesl_reachability.proofs.Cells.{same_place, cell_now, kept_room, there_put}
use Rattle.wesl_reachability.proofs.Onward.{onward_now, onward_put, far_then, less_far}

-- ---- states

pub known_state : (o : Option State) → is_met o ≡ true → (o ≡ Some Met) ⊎ (o ≡ Some Passed)
known_state None e = absurd (cc)
known_state (Some New) e = absurd (cc)
known_state (Some Met) e = inl refl
known_state (Some Passed) e = inr refl

-- one of those that waited waits no more
pub record Drops (old : List Waiting) (one : Waiting) (new : List Waiting) : Type 0 where
  pub on : (x : Waiting) → Contains old x → (x ≡ one) ⊎ Contains new x
  pub back : (x : Waiting) → Contains new x → Contains old x

-- one more waits
pub record Adds (old : List Waiting) (one : Waiting) (new : List Waiting) : Type 0 where
  pub there : Contains new one
  pub on : (x : Waiting) → Contains old x → Contains new x
  pub back : (x : Waiting) → Contains new x → (x ≡ one) ⊎ Contains old x

pub drops_at : (xs ys : List Waiting) (one : Waiting) → Drops (xs ++ one ∷ ys) one (xs ++ ys)
drops_at xs ys one = record {
  on = λ x c. elim (Contains-append_cases xs (one ∷ ys) x c) [
    | inl d ↦ inr (Contains-append_left xs ys x d)
    | inr d ↦ elim (in_cases one ys x d) [ inl e ↦ inl (sym e) | inr f ↦ inr (Contains-append_right xs ys x f) ]
  ];
  back = λ x c. elim (Contains-append_cases xs ys x c) [
    | inl d ↦ Contains-append_left xs (one ∷ ys) x d
    | inr d ↦ Contains-append_right xs (one ∷ ys) x (later_in x one ys d)
  ];
}

pub drops_behind : (xs ys : List Waiting) (other one : Waiting) → Drops (xs ++ other ∷ one ∷ ys) one (xs ++ other ∷ ys)
drops_behind xs ys other one = subst (λ l. Drops l one (xs ++ other ∷ ys)) (append_assoc xs (other ∷ []) (one ∷ ys))
    (subst (λ l. Drops ((xs ++ other ∷ []) ++ one ∷ ys) one l) (append_assoc xs (other ∷ []) ys) (drops_at (xs ++ other ∷ []) ys one))

pub adds_at : (xs ys : List Waiting) (one : Waiting) → Adds (xs ++ ys) one (xs ++ one ∷ ys)
adds_at xs ys one = let d = drops_at xs ys one in record { there = Contains-append_right xs (one ∷ ys) one (first_in one ys); on = d.back; back = d.on }

-- ---- only states change

module _ (ms : Modules) (find : Finder) where
  pub linked_same : (waits : List Waiting) (old new : Chains) → Linked ms find old waits → SameWays old new → Linked ms find new waits
  linked_same waits old new l w = record {
    states = λ v s is. w.room v.«module» v.item (l.states v s is);
    onwards = λ v s is. subst (λ x. HasRoom x.onward.items v.«module» v.item) (sym w.links) (l.onwards v s is);
    befores = λ v s is. subst (λ x. HasRoom x.items v.«module» v.item) (sym w.before) (l.befores v s is);
    onward = subst (λ x. LeadOn ms find x.onward.items) (sym w.links) l.onward;
    stay = λ v k. w.known (onward_at (onward_of new) v) ∙ ap (λ x. is_known old (onward_at x.onward.items v)) w.links ∙ l.stay v (sym (w.known v) ∙ k);
    new_last = λ v is. ap (λ x. onward_at x.onward.items v) w.links ∙ l.new_last v (w.unmet v is);
    published = λ v k. l.published v (sym (w.known v) ∙ k);
    before_known = λ v x c. w.known x ∙ l.before_known v x (subst (λ y. Contains (list_of (cell y.items v.«module» v.item)) x) w.before c);
    lasts = λ v s k e is. l.lasts v s (sym (w.known v) ∙ k) (sym (ap (λ x. onward_at x.onward.items v) w.links) ∙ e) is;
    ended = λ v s k is. l.ended v s (sym (w.known v) ∙ k) is;
    waiting = λ s v c. let r = l.waiting s v c in (r.0, w.known v ∙ r.1);
  }

  -- what was sought ends at a declaration
  module _ (old new : List Waiting) (s : Symbol) (b : Option Via) (d : Drops old (s, b) new) (k : ℕ) (is : next find s ≡ stands k) where
    settled_on : (t : Symbol) (v : Via) → Settled find old t v → Settled find new t v
    settled_on t v (inl x) = inl x
    settled_on t v (inr c) = elim (d.on (t, Some v) c) [
      | inl e ↦ inl (k, ap (λ x. next find x.0) e ∙ is)
      | inr x ↦ inr x
    ]

    pub linked_ends : (c : Chains) → Linked ms find c old → Linked ms find c new
    linked_ends c l = record {
      states = l.states;
      onwards = l.onwards;
      befores = l.befores;
      onward = l.onward;
      stay = l.stay;
      new_last = l.new_last;
      published = l.published;
      before_known = l.before_known;
      lasts = λ v t kn e there. settled_on t v (l.lasts v t kn e there);
      ended = λ v t kn there. let x = l.ended v t kn there in record { via = x.via; last = x.last; is_last = x.is_last; chain = x.chain; settled = settled_on x.last x.via x.settled };
      waiting = λ t v x. l.waiting t v (d.back (t, Some v) x);
    }

  -- a reference leads to an import that was met before
  pub linked_dropped : (old new : List Waiting) (s : Symbol) → Drops old (s, None) new → (c : Chains) → Linked ms find c old → Linked ms find c new
  linked_dropped old new s d c l = record {
    states = l.states;
    onwards = l.onwards;
    befores = l.befores;
    onward = l.onward;
    stay = l.stay;
    new_last = l.new_last;
    published = l.published;
    before_known = l.before_known;
    lasts = λ v t kn e there. on t v (l.lasts v t kn e there);
    ended = λ v t kn there. let x = l.ended v t kn there in record { via = x.via; last = x.last; is_last = x.is_last; chain = x.chain; settled = on x.last x.via x.settled };
    waiting = λ t v x. l.waiting t v (d.back (t, Some v) x);
  }
    where
      on : (t : Symbol) (v : Via) → Settled find old t v → Settled find new t v
      on t v (inl x) = inl x
      on t v (inr x) = elim (d.on (t, Some v) x) [
        | inl e ↦ (let f : Some v ≡ None = ap (λ y. y.1) e in absurd (cc))
        | inr y ↦ inr y
      ]

  -- ---- an import is met

  module _ (v : Via) (t : Symbol) (is_v : symbol_via ms v ≡ Some t) (old new : Chains) (was_new : state_at old v ≡ Some New) (p : PutsState v Met old new) where
    state_now : (w : Via) → ((w ≡ v) × (state_at new w ≡ option_map (λ x. Met) (state_at old w))) ⊎ (state_at new w ≡ state_at old w)
    state_now w = elim (cell_now old.states.items v.«module» v.item Met new.states.items p.puts w.«module» w.item) [
      | inl e ↦ inl ((λ i. record { «module» = e.0 i; item = e.1 i }), e.2)
      | inr e ↦ inr e
    ]

    pub known_or : (w : Via) → IsKnown new w → IsKnown old w ⊎ (w ≡ v)
    known_or w k = elim (state_now w) [ inl e ↦ inr e.0 | inr e ↦ inl (ap is_met (sym e) ∙ k) ]

    kept_met : (o : Option State) → is_met o ≡ true → is_met (option_map (λ x. Met) o) ≡ true
    kept_met None e = absurd (cc)
    kept_met (Some x) e = refl

    pub known_kept : (w : Via) → IsKnown old w → IsKnown new w
    known_kept w k = elim (state_now w) [ inl e ↦ ap is_met e.1 ∙ kept_met (state_at old w) k | inr e ↦ ap is_met e ∙ k ]

    not_new : (o : Option State) → option_map (λ x. Met) o ≡ Some New → ⊥
    not_new None e = absurd (cc)
    not_new (Some x) e = absurd (cc)

    not_passed : (o : Option State) → option_map (λ x. Met) o ≡ Some Passed → ⊥
    not_passed None e = absurd (cc)
    not_passed (Some x) e = absurd (cc)

    unmet_before : (w : Via) → state_at new w ≡ Some New → state_at old w ≡ Some New
    unmet_before w e = elim (state_now w) [ inl f ↦ absurd (not_new (state_at old w) (sym f.1 ∙ e)) | inr f ↦ sym f ∙ e ]

    pub gone_before : (w : Via) → IsGone new w → IsGone old w
    gone_before w e = elim (state_now w) [ inl f ↦ absurd (not_passed (state_at old w) (sym f.1 ∙ e)) | inr f ↦ sym f ∙ e ]

    pub gone_kept : (w : Via) → IsGone old w → IsGone new w
    gone_kept w e = elim (state_now w) [
      | inl f ↦ (let g : Some New ≡ Some Passed = sym was_new ∙ ap (state_at old) (sym f.0) ∙ e in absurd (cc))
      | inr f ↦ f ∙ e
    ]

    pub is_met_now : IsKnown new v
    is_met_now = ap is_met (p.puts.here ∙ ap (option_map (λ x. Met)) was_new)

    pub before_same : (w : Via) → before_at new w ≡ before_at old w
    before_same w = ap (λ y. list_of (cell y.items w.«module» w.item)) p.before

    pub linked_met : (waits more : List Waiting) → Adds waits (t, Some v) more → Linked ms find old waits → Linked ms find new more
    linked_met waits more a l = record {
      states = λ w s is. kept_room old.states.items v.«module» v.item Met new.states.items p.puts w.«module» w.item (l.states w s is);
      onwards = λ w s is. subst (λ x. HasRoom x.onward.items w.«module» w.item) (sym p.links) (l.onwards w s is);
      befores = λ w s is. subst (λ x. HasRoom x.items w.«module» w.item) (sym p.before) (l.befores w s is);
      onward = subst (λ x. LeadOn ms find x.onward.items) (sym p.links) l.onward;
      stay = λ w k. subst (λ x. IsKnown new (onward_at x.onward.items w)) (sym p.links) (elim (known_or w k) [
        | inl x ↦ known_kept (onward_at (onward_of old) w) (l.stay w x)
        | inr e ↦ subst (λ x. IsKnown new x) (sym e ∙ sym (l.new_last w (ap (state_at old) e ∙ was_new))) is_met_now
      ]);
      new_last = λ w is. ap (λ x. onward_at x.onward.items w) p.links ∙ l.new_last w (unmet_before w is);
      published = λ w k. elim (known_or w k) [ inl x ↦ l.published w x | inr e ↦ (t, ap (symbol_via ms) e ∙ is_v) ];
      before_known = λ w x c. known_kept x (l.before_known w x (subst (λ y. Contains y x) (before_same w) c));
      lasts = λ w s k e is. elim (known_or w k) [
        | inl x ↦ later s w (l.lasts w s x (sym (ap (λ y. onward_at y.onward.items w) p.links) ∙ e) is)
        | inr f ↦ now w s f is
      ];
      ended = λ w s k is. elim (known_or w k) [
        | inl x ↦ (let y = l.ended w s x is in record { via = y.via; last = y.last; is_last = y.is_last; chain = y.chain; settled = later y.last y.via y.settled })
        | inr f ↦ record { via = w; last = s; is_last = is; chain = ([], here); settled = now w s f is }
      ];
      waiting = λ s w c. elim (a.back (s, Some w) c) [
        | inl e ↦ (let f : v ≡ w = sym (same_some (ap (λ y. y.1) e)) in (ap (symbol_via ms) (sym f) ∙ is_v ∙ ap Some (sym (ap (λ y. y.0) e)), subst (λ x. IsKnown new x) f is_met_now))
        | inr d ↦ (let r = l.waiting s w d in (r.0, known_kept w r.1))
      ];
    }
      where
        later : (s : Symbol) (w : Via) → Settled find waits s w → Settled find more s w
        later s w (inl x) = inl x
        later s w (inr x) = inr (a.on (s, Some w) x)

        now : (w : Via) (s : Symbol) → w ≡ v → symbol_via ms w ≡ Some s → Settled find more s w
        now w s e is =
            let f : t ≡ s = same_some (sym is_v ∙ ap (symbol_via ms) (sym e) ∙ is) in
            let g : v ≡ w = sym e in
            inr (subst (λ x. Contains more x) (λ i. (f i, Some (g i))) a.there)

  -- ---- a chain goes on from an import to one that was met

  module _ (tabled : AreTabled ms find) (old new : Chains) (from v : Via) (g : GoesOn ms from v old new) (s t : Symbol) (is_step : next find s ≡ leads t) (is_v : symbol_via ms v ≡ Some t)
      (waits left : List Waiting) (d : Drops waits (s, Some from) left) (l : Linked ms find old waits) (is_from : symbol_via ms from ≡ Some s) (from_known : IsKnown old from) (v_known : IsKnown old v) where
    known_same : (w : Via) → is_known new w ≡ is_known old w
    known_same w = ap (λ x. is_met (cell x.items w.«module» w.item)) g.states

    last_known : IsKnown old g.last
    last_known = (g.finds.is_last (is_known old) l.stay v_known).1

    last_last : IsLast (onward_of old) g.last
    last_last = g.finds.shortens.only_last g.last (g.finds.is_last (is_known old) l.stay v_known).0

    room : HasRoom g.mid from.«module» from.item
    room = g.finds.shortens.room from.«module» from.item (l.onwards from s is_from)

    from_last : onward_at (onward_of new) from ≡ g.last
    from_last = onward_put g.mid (onward_of new) from g.last g.leads room

    now : (w : Via) → (onward_at (onward_of new) w ≡ onward_at g.mid w) ⊎ ((w ≡ from) × (onward_at (onward_of new) w ≡ g.last))
    now w = onward_now g.mid (onward_of new) from g.last g.leads w

    one_step : IsFar find s (symbol_via ms v) 1
    one_step = record { last = t; by = s.home; more = []; is_last = is_v; chain = onto is_step here; count = omega arith }

    -- the way to the last one
    way : IsFar find s (symbol_via ms g.last) 1
    way = elim (g.finds.comes find tabled l.onward t is_v) [
      | inl e ↦ subst (λ x. IsFar find s (symbol_via ms x) 1) e one_step
      | inr x ↦ less_far find s (symbol_via ms g.last) 2 1 (far_then find s t (symbol_via ms g.last) 1 (subst (λ o. IsFar find s o 1) is_v one_step) x) (omega arith)
    ]

    on : (u : Symbol) (w : Via) → (w ≡ from → ⊥) → Settled find waits u w → Settled find left u w
    on u w other (inl x) = inl x
    on u w other (inr c) = elim (d.on (u, Some w) c) [
      | inl e ↦ absurd (other (same_some (ap (λ y. y.1) e)))
      | inr x ↦ inr x
    ]

    last_settled : (u : Symbol) → symbol_via ms g.last ≡ Some u → Settled find left u g.last
    last_settled u is = on u g.last g.other (l.lasts g.last u last_known last_last is)

    from_or : (w : Via) (u : Symbol) → Settled find waits u w → (w ≡ from → symbol_via ms w ≡ Some u → Ended ms find left u) → symbol_via ms w ≡ Some u → Ended ms find left u
    from_or w u (inl x) else is = record { via = w; last = u; is_last = is; chain = ([], here); settled = inl x }
    from_or w u (inr c) else is = elim (d.on (u, Some w) c) [
      | inl e ↦ else (same_some (ap (λ y. y.1) e)) is
      | inr x ↦ record { via = w; last = u; is_last = is; chain = ([], here); settled = inr x }
    ]

    through : (u : Symbol) → u ≡ s → Ended ms find left u
    through u e = record {
      via = g.last;
      last = way.last;
      is_last = way.is_last;
      chain = (way.by ∷ way.more, subst (λ x. Leads find x (way.by ∷ way.more) way.last) (sym e) way.chain);
      settled = last_settled way.last way.is_last;
    }

    led : {a b e : Symbol} → LeadsTo find a b → LeadsTo find b e → LeadsTo find a e
    led (ps, x) (qs, y) = (ps ++ qs, leads_then find x y)

    pub linked_goes_on : Linked ms find new left
    linked_goes_on = record {
      states = λ w u is. subst (λ x. HasRoom x.items w.«module» w.item) (sym g.states) (l.states w u is);
      onwards = λ w u is. kept_room g.mid from.«module» from.item g.last (onward_of new) g.leads w.«module» w.item (g.finds.shortens.room w.«module» w.item (l.onwards w u is));
      befores = λ w u is. g.steps.room w.«module» w.item (l.befores w u is);
      onward = λ w u is. elim (now w) [
        | inl e ↦ elim (g.finds.shortens.right find tabled l.onward w u is) [
          | inl f ↦ inl (e ∙ f)
          | inr f ↦ inr (subst (λ x. IsFar find u (symbol_via ms x) 1) (sym e) f)
        ]
        | inr e ↦ inr (subst (λ x. IsFar find u (symbol_via ms x) 1) (sym e.1) (subst (λ x. IsFar find x (symbol_via ms g.last) 1) (same_some (sym is_from ∙ ap (symbol_via ms) (sym e.0) ∙ is)) way))
      ];
      stay = λ w k. known_same (onward_at (onward_of new) w) ∙ elim (now w) [
        | inl e ↦ ap (is_known old) e ∙ g.finds.shortens.stay (is_known old) l.stay w (sym (known_same w) ∙ k)
        | inr e ↦ ap (is_known old) e.1 ∙ last_known
      ];
      new_last = λ w is. let was : state_at old w ≡ Some New = sym (ap (λ x. cell x.items w.«module» w.item) g.states) ∙ is in elim (now w) [
        | inl e ↦ e ∙ g.finds.shortens.last w (l.new_last w was)
        | inr e ↦ (let f : false ≡ true = sym (ap is_met was) ∙ ap (is_known old) e.0 ∙ from_known in absurd (cc))
      ];
      published = λ w k. l.published w (sym (known_same w) ∙ k);
      before_known = λ w x c. known_same x ∙ elim (same_place w.«module» w.item v.«module» v.item) [
        | inl e ↦ elim (Contains-push_cases (before_at old v) from x (subst (λ y. Contains y x) (ap (λ y. before_at new y) (let f : w ≡ v = (λ i. record { «module» = e.0 i; item = e.1 i }) in f) ∙ g.steps.there (l.befores v t is_v)) c)) [
          | inl y ↦ l.before_known v x y
          | inr y ↦ ap (is_known old) (sym y) ∙ from_known
        ]
        | inr n ↦ l.before_known w x (subst (λ y. Contains (list_of y) x) (g.steps.others w.«module» w.item n) c)
      ];
      lasts = λ w u k e is. elim (now w) [
        | inl f ↦ on u w
            (λ same. g.other (sym from_last ∙ ap (onward_at (onward_of new)) (sym same) ∙ e ∙ same))
            (l.lasts w u (sym (known_same w) ∙ k) (g.finds.shortens.only_last w (sym f ∙ e)) is)
        | inr f ↦ absurd (g.other (sym f.1 ∙ e ∙ f.0))
      ];
      ended = λ w u k is. let x = l.ended w u (sym (known_same w) ∙ k) is in
          let y = from_or x.via x.last x.settled (λ e f. through x.last (same_some (sym f ∙ ap (symbol_via ms) e ∙ is_from))) x.is_last in
          record { via = y.via; last = y.last; is_last = y.is_last; chain = led x.chain y.chain; settled = y.settled };
      waiting = λ u w c. let r = l.waiting u w (d.back (u, Some w) c) in (r.0, known_same w ∙ r.1);
    }
