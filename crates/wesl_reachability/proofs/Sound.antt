-- Nothing is held but what is reached, and it stays so.
use Rattle.std.proofs.Common.{◌≡◌, refl, sym, ap, ◌∙◌, subst, ℕ, zero, suc, ◌<◌, ◌⊎◌, inl, inr, List, [], ◌∷◌, ◌++◌, map, length, Option, Some, None, Bool, true, false, arith}
use Rattle.std.specs.Prelude.{slice_get, string_bytes, Vec}
use Rattle.std.specs.declared.alloc.Global.{Global}
use Rattle.std.specs.BTreeMap.{get_by_text}
use Rattle.std.specs.List.{All, Contains}
use Rattle.std.proofs.lemmas.List.Elements.{All-contains, Contains-append_left, Contains-append_right, Contains-push_cases}
use Rattle.wgsl_base.proofs.Members.{from_contains, to_contains, in_map, first_in, later_in, in_cases, in_none}
use Rattle.wesl_chains.specs.Outlines.{Name, Path, Symbol, Use, assertion, Entry, Outline, Finder}
use Rattle.wesl_chains.specs.Senses.{own, bare, sense}
use Rattle.wesl_chains.specs.Chains.{stands, leads, next, Outcome, declared_at, missing, outcome_at, Leads, here, onto, Loops, Ends, comes_to, is_endless, Denotes, by_own, by_item, by_bare}
use Rattle.wesl_chains.specs.Reaching.{IsAt, Reached, onward, asserted, IsPassedThrough, by_chain, denotes_nothing, IsRefusedAt}
use Rattle.wesl_chains.proofs.Loops.{same_some, leads_then, leads_more, loops_behind}
use Rattle.wesl_mark.specs.declared.place.Place.{Place}
use Rattle.wesl_mark.specs.declared.place.Kind.TheVariants as kind
use Rattle.wesl_module_index.specs.declared.module.Module.{Module}
use Rattle.wesl_module_index.specs.declared.module.Meaning.TheVariants.{Imported}
use Rattle.wesl_module_index.specs.declared.modules.Modules.{Modules}
use Rattle.wesl_module_index.specs.declared.modules.DeclarationId.{DeclarationId}
use Rattle.wesl_module_index.specs.Tables.{is_void, place_number, use_at, entry_said, kind_said, IsTabled}
use Rattle.wesl_module_index.specs.Loaded.{numbered_module, place_in, place_at, AreSame, AreTabled, IsUse}
use Rattle.wesl_name_resolution.specs.declared.denote.Via.{Via}
use Rattle.wesl_name_resolution.specs.Links.{symbol_via}
use Rattle.wesl_reachability.specs.declared.chains.Chains.{Chains}
use Rattle.wesl_reachability.specs.declared.chains.State.{State}
use Rattle.wesl_reachability.specs.declared.chains.State.TheVariants.{New, Met, Passed}
use Rattle.wesl_reachability.specs.declared.holding.Holding.{Holding}
use Rattle.wesl_reachability.specs.Cells.{cell, HasRoom}
use Rattle.wesl_reachability.specs.Holding.{spot_of, Holds, IsPassed, Grows, IsAssertion, Reaches, ReachesAll, Passes, Arrives}
use Rattle.wesl_reachability.specs.Onward.{IsFar, LeadOn, ComesToLast}
use Rattle.wesl_reachability.specs.Joining.{state_at, onward_of, list_of, before_at, GoesOn, TurnsBack, IsBack, PutsState, Meets, StepsOn}
use Rattle.wesl_reachability.specs.Asking.{Waiting}
use Rattle.wesl_reachability.specs.Searching.{is_met, IsKnown, IsGone}
use Rattle.wesl_reachability.specs.Passing.{SameWays, LeadsUp, itself, before, IsOnWay, PassesOnly}
use Rattle.wesl_reachability.specs.Held.{HoldsAt, IsPassedAt}
use Rattle.wesl_reachability.specs.Uses.{references_of, uses_in}
use Rattle.wesl_reachability.specs.Sound.{AreApart, Arrived, IsUsed, Comes, RefusesSome, ComesBy, IsReference, LeadsOver, Goes, Sound}
use Rattle.wesl_reachability.proofs.Cells.{same_place}
use Rattle.wesl_reachability.proofs.Entries.{entry_there}
use Rattle.wesl_reachability.proofs.Onward.{onward_now, far_then, less_far}
use Rattle.wesl_reachability.proofs.Linking.{known_or, known_kept, gone_before, before_same, is_met_now}

module _ (ms : Modules) (find : Finder) (tabled : AreTabled ms find) where
  -- paths with one number are one
  pub same_home : (n : ℕ) (p q : Path) → get_by_text ms.numbers p ≡ Some n → get_by_text ms.numbers q ≡ Some n → p ≡ q
  same_home n p q a b = same_some (sym (ms.keyed p n a) ∙ ms.keyed q n b)

  pub outline_at : (p : Path) (n : ℕ) (one : Module) → get_by_text ms.numbers p ≡ Some n → slice_get ms.list.items n ≡ Some one → (o : Outline) × (find p ≡ Some o) × IsTabled one o
  outline_at p n one numbered is = at (find p) refl (subst (λ y. AreSame y (find p)) (ap (numbered_module ms) numbered ∙ is) (tabled p))
    where
      at : (x : Option Outline) → find p ≡ x → AreSame (Some one) x → (o : Outline) × (find p ≡ Some o) × IsTabled one o
      at None e a = absurd a
      at (Some o) e a = (o, e, a)

  -- what stands at a place that is held
  pub record Stood (h : Holding) (p : Path) (k : ℕ) (x : HoldsAt ms h p k) : Type 0 where
    pub outline : Outline
    pub uses : Vec ℕ Global
    pub are_uses : slice_get x.table.uses.items x.place ≡ Some uses
    pub is_at : IsAt find p k outline (entry_said x.table.list x.entry.place uses.items)

  pub stood : AreApart ms → (h : Holding) (p : Path) (k : ℕ) (x : HoldsAt ms h p k) → Stood h p k x
  stood apart h p k x =
      let o = outline_at p x.number x.table x.is_numbered x.is_module in
      let e = entry_there x.table.list x.table.places.items x.table.uses.items x.place x.entry.place (apart.uses x.number x.table x.is_module).rows x.entry.is_there x.entry.is_entry in
      record {
        outline = o.0;
        uses = e.0;
        are_uses = e.1;
        is_at = record { is_module = o.1; stands_there = ap (λ l. slice_get l k) (sym o.2.entries) ∙ ap (slice_get _) (sym x.at) ∙ e.2 };
      }

  pub goes_back : (v w : Via) → LeadsOver ms find w v → Goes ms find v → Goes ms find w
  goes_back v w l g =
      let same : g.onward ≡ l.second = same_some (sym g.is_onward ∙ l.is_second) in
      record {
        onward = l.first;
        is_onward = l.is_first;
        arrived = record {
          last = g.arrived.last;
          passed = l.first.home ∷ g.arrived.passed;
          chain = onto l.step (subst (λ x. Leads find x g.arrived.passed g.arrived.last) same g.arrived.chain);
          place = g.arrived.place;
          is_declared = g.arrived.is_declared;
        };
      }

  module _ (root : Path) (kept : List Name) (all_begin : Bool) where
    -- ---- chains

    pub comes_on : (s t : Symbol) → Comes find root kept all_begin s → next find s ≡ leads t → Comes find root kept all_begin t
    comes_on s t c e = record { home = c.home; outline = c.outline; occurring = c.occurring; used = c.used; first = c.first; is_meant = c.is_meant; passed = c.passed ++ s.home ∷ []; chain = leads_more find c.chain e }

    refused_with : (m : Path) (o : Outline) (u : Use) (ps : List Path) (r : Outcome) → IsUsed find root kept all_begin m o u → Denotes find m o u ps r → denotes_nothing r ≡ true → RefusesSome find root kept all_begin
    refused_with m o u ps r d comes nothing =
        let i = from_contains d.entry.uses u d.used in
        record {
          home = m;
          place = d.place;
          number = i.0;
          outcome = r;
          refused = record { outline = o; entry = d.entry; is_at = d.is_at; reached = d.reached; occurring = u; used = i.1; passed = ps; comes = comes; nothing = nothing };
        }

    pub comes_refused : (s : Symbol) (more : List Path) (r : Outcome) → Comes find root kept all_begin s → outcome_at s (next find s) ≡ Some (more, r) → denotes_nothing r ≡ true → RefusesSome find root kept all_begin
    comes_refused s more r c e nothing = refused_with c.home c.outline c.occurring (c.passed ++ more) r c.used (by_item c.is_meant (comes_to c.chain e)) nothing

    pub comes_round : (s : Symbol) → Comes find root kept all_begin s → Loops find s → RefusesSome find root kept all_begin
    comes_round s c l = refused_with c.home c.outline c.occurring [] (missing c.first) c.used (by_item c.is_meant (is_endless (loops_behind find c.chain l))) refl

    pub bare_refused : (m : Path) (o : Outline) (u : Use) (x : Name) → IsUsed find root kept all_begin m o u → sense o u ≡ bare x → RefusesSome find root kept all_begin
    bare_refused m o u x d e = refused_with m o u [] (missing (record { home = m; name = x })) d (by_bare e) refl

    pub comes_reached : (s : Symbol) (c : Comes find root kept all_begin s) (a : Arrived find s)
        → Reached find root kept all_begin a.last.home a.place × ((q : Path) → Contains ((c.passed ++ a.passed) ++ a.last.home ∷ []) q → IsPassedThrough find root kept all_begin q)
    comes_reached s c a =
        let d : Denotes find c.home c.outline c.occurring ((c.passed ++ a.passed) ++ a.last.home ∷ []) (declared_at a.last.home a.place)
        = by_item c.is_meant (comes_to (leads_then find c.chain a.chain) (ap (outcome_at a.last) a.is_declared)) in
        (onward c.used.reached c.used.is_at c.used.used d, λ q x. by_chain c.used.reached c.used.is_at c.used.used d x)

    -- a name denotes a declaration of its own module
    pub own_reached : (m : Path) (o : Outline) (u : Use) (k : ℕ) → IsUsed find root kept all_begin m o u → sense o u ≡ own k → Reached find root kept all_begin m k × IsPassedThrough find root kept all_begin m
    own_reached m o u k d e =
        let x : Denotes find m o u (m ∷ []) (declared_at m k) = by_own e in
        (onward d.reached d.is_at d.used x, by_chain d.reached d.is_at d.used x (first_in m []))

    -- an import by which chains come to a declaration
    through_by : (v : Via) → ComesBy find root kept all_begin ms v → Goes ms find v → (p : Path) → get_by_text ms.numbers p ≡ Some v.«module» → IsPassedThrough find root kept all_begin p
    through_by v b g p numbered =
        let same : g.onward ≡ b.onward = same_some (sym g.is_onward ∙ b.is_onward) in
        let ps = g.arrived.passed in
        let a : Arrived find b.sought = record {
          last = g.arrived.last;
          passed = b.sought.home ∷ ps;
          chain = onto b.step (subst (λ x. Leads find x ps g.arrived.last) same g.arrived.chain);
          place = g.arrived.place;
          is_declared = g.arrived.is_declared;
        } in
        subst (λ q. IsPassedThrough find root kept all_begin q) (same_home v.«module» b.sought.home p b.is_numbered numbered)
        ((comes_reached b.sought b.comes a).1 b.sought.home
        (Contains-append_left (b.comes.passed ++ b.sought.home ∷ ps) (g.arrived.last.home ∷ []) b.sought.home (Contains-append_right b.comes.passed (b.sought.home ∷ ps) b.sought.home (first_in b.sought.home ps))))

    -- an assertion of a module that is passed
    asserted_at : AreApart ms → (h : Holding) (p : Path) (k : ℕ) (x : HoldsAt ms h p k) → IsPassedThrough find root kept all_begin p → IsAssertion ms.list.items x.number x.place → Reached find root kept all_begin p k
    asserted_at apart h p k x through a =
        let s = stood apart h p k x in
        let same : a.0 ≡ x.table = same_some (sym a.1 ∙ x.is_module) in
        let place : a.2.place ≡ x.entry.place = same_some (sym a.2.is_there ∙ ap (λ (m : Module). slice_get m.places.items x.place) same ∙ x.entry.is_there) in
        asserted through s.is_at (ap (λ (y : Place). kind_said y.kind) (sym place) ∙ ap kind_said a.2.is_kind)

    -- ---- a search

    module _ (h : Holding) (c : Chains) (lacks : Bool) (waits : List Waiting) (s : Sound ms find root kept all_begin h c lacks waits) where
      pub sound_waits : (more : List Waiting) → ((x : Waiting) → Contains more x → Contains waits x) → Sound ms find root kept all_begin h c lacks more
      sound_waits more on = record {
        apart = s.apart;
        held = s.held;
        works = s.works;
        passed = s.passed;
        known = s.known;
        steps = s.steps;
        gone = s.gone;
        rooms = s.rooms;
        onward = s.onward;
        waiting = λ t b x. s.waiting t b (on (t, b) x);
        imports = λ t v x. s.imports t v (on (t, Some v) x);
        missing = s.missing;
      }

      pub sound_more : (t : Symbol) → Comes find root kept all_begin t → Sound ms find root kept all_begin h c lacks ((t, None) ∷ waits)
      sound_more t comes = record {
        apart = s.apart;
        held = s.held;
        works = s.works;
        passed = s.passed;
        known = s.known;
        steps = s.steps;
        gone = s.gone;
        rooms = s.rooms;
        onward = s.onward;
        waiting = λ u b x. elim (in_cases (t, None) waits (u, b) x) [
          | inl e ↦ subst (λ y. Comes find root kept all_begin y) (ap (λ y. y.0) e) comes
          | inr y ↦ s.waiting u b y
        ];
        imports = λ u v x. elim (in_cases (t, None) waits (u, Some v) x) [
          | inl e ↦ (let f : None ≡ Some v = ap (λ y. y.1) e in absurd (cc))
          | inr y ↦ s.imports u v y
        ];
        missing = s.missing;
      }

      pub sound_missing : RefusesSome find root kept all_begin → Sound ms find root kept all_begin h c true waits
      sound_missing r = record {
        apart = s.apart;
        held = s.held;
        works = s.works;
        passed = s.passed;
        known = s.known;
        steps = s.steps;
        gone = s.gone;
        rooms = s.rooms;
        onward = s.onward;
        waiting = s.waiting;
        imports = s.imports;
        missing = λ e. r;
      }

      -- ---- modules are passed

      module _ (work : List Via) (now : Holding) (new : Chains) (o : PassesOnly ms work h c now new) (ways : SameWays c new) (grows : Grows h now) (good : (v : Via) → Contains work v → IsKnown c v × Goes ms find v) where
        ups : (v : Via) → LeadsUp c work v → IsKnown c v × Goes ms find v
        ups v (itself x) = good v x
        ups w (before {v = v} l x) = let a = ups v l in let b = s.steps v w x in (b.0, goes_back v w b.1 a.1)

        on_way : (m : ℕ) → IsOnWay c work m → (p : Path) → get_by_text ms.numbers p ≡ Some m → IsPassedThrough find root kept all_begin p
        on_way m w p numbered = let a = ups w.via w.leads_up in through_by w.via (s.known w.via a.0) a.1 p (numbered ∙ ap Some (sym w.is_module))

        pub sound_passes : Sound ms find root kept all_begin now new lacks waits
        sound_passes = record {
          apart = s.apart;
          held = λ p k x. elim (o.held x.number x.place x.held) [
            | inl y ↦ s.held p k (record { number = x.number; place = x.place; table = x.table; is_numbered = x.is_numbered; is_module = x.is_module; entry = x.entry; at = x.at; held = y })
            | inr y ↦ asserted_at s.apart now p k x (on_way x.number y.0 p x.is_numbered) y.1
          ];
          works = grows.works_only s.works;
          passed = λ p x. elim (o.passed x.number x.passed) [
            | inl y ↦ s.passed p (record { number = x.number; is_numbered = x.is_numbered; passed = y })
            | inr y ↦ on_way x.number y p x.is_numbered
          ];
          known = λ v k. s.known v (sym (ways.known v) ∙ k);
          steps = λ v w x. let y = s.steps v w (subst (λ z. Contains (list_of (cell z.items v.«module» v.item)) w) ways.before x) in (ways.known w ∙ y.0, y.1);
          gone = λ v g. elim (o.gone v g) [ inl y ↦ s.gone v y | inr y ↦ (ups v y).1 ];
          rooms = λ v u is. subst (λ x. HasRoom x.items v.«module» v.item) (sym ways.before) (s.rooms v u is);
          onward = subst (λ x. LeadOn ms find x.onward.items) (sym ways.links) s.onward;
          waiting = s.waiting;
          imports = λ t v x. let y = s.imports t v x in (y.0, ways.known v ∙ y.1);
          missing = s.missing;
        }

      -- ---- a declaration is reached, and its module is passed

      pub sound_arrives : (spot : DeclarationId) (now : Holding) → Arrives ms.list.items spot h now → (q : Path) → get_by_text ms.numbers q ≡ Some spot.«module» → Reached find root kept all_begin q (place_at ms spot)
          → IsPassedThrough find root kept all_begin q → Sound ms find root kept all_begin now c lacks waits
      sound_arrives spot now a q numbered reached through = record {
        apart = s.apart;
        held = λ p k x. elim (a.reaches.only x.number x.place x.held) [
          | inl y ↦ elim (a.passes.only_held x.number x.place y) [
            | inl z ↦ s.held p k (record { number = x.number; place = x.place; table = x.table; is_numbered = x.is_numbered; is_module = x.is_module; entry = x.entry; at = x.at; held = z })
            | inr z ↦ asserted_at s.apart now p k x (subst (λ y. IsPassedThrough find root kept all_begin y) (same_home spot.«module» q p numbered (x.is_numbered ∙ ap Some z.0)) through) z.1
          ]
          | inr e ↦ (let home : q ≡ p = same_home spot.«module» q p numbered (x.is_numbered ∙ ap (λ y. Some y.«module») e) in
              let place : place_at ms spot ≡ k = ap (place_at ms) (sym e) ∙ ap (λ y. place_in y x.place) x.is_module ∙ x.at in
              subst (λ y. Reached find root kept all_begin y k) home (subst (λ y. Reached find root kept all_begin q y) place reached))
        ];
        works = a.reaches.grows.works_only (a.passes.grows.works_only s.works);
        passed = λ p x. elim (a.passes.only_passed x.number (subst (λ v. slice_get v.items x.number ≡ Some true) a.reaches.passed x.passed)) [
          | inl y ↦ s.passed p (record { number = x.number; is_numbered = x.is_numbered; passed = y })
          | inr y ↦ subst (λ z. IsPassedThrough find root kept all_begin z) (same_home spot.«module» q p numbered (x.is_numbered ∙ ap Some y)) through
        ];
        known = s.known;
        steps = s.steps;
        gone = s.gone;
        rooms = s.rooms;
        onward = s.onward;
        waiting = s.waiting;
        imports = s.imports;
        missing = s.missing;
      }

      -- ---- places are reached, or a module is passed

      pub sound_reaches : (spots : List DeclarationId) (now : Holding) → ReachesAll spots h now → ((p : Path) (k : ℕ) (x : HoldsAt ms now p k) → Contains spots (spot_of x.number x.place) → Reached find root kept all_begin p k)
          → Sound ms find root kept all_begin now c lacks waits
      sound_reaches spots now r reached = record {
        apart = s.apart;
        held = λ p k x. elim (r.only x.number x.place x.held) [
          | inl y ↦ s.held p k (record { number = x.number; place = x.place; table = x.table; is_numbered = x.is_numbered; is_module = x.is_module; entry = x.entry; at = x.at; held = y })
          | inr y ↦ reached p k x y
        ];
        works = r.grows.works_only s.works;
        passed = λ p x. s.passed p (record { number = x.number; is_numbered = x.is_numbered; passed = subst (λ v. slice_get v.items x.number ≡ Some true) r.passed x.passed });
        known = s.known;
        steps = s.steps;
        gone = s.gone;
        rooms = s.rooms;
        onward = s.onward;
        waiting = s.waiting;
        imports = s.imports;
        missing = s.missing;
      }

      pub sound_module : (number : ℕ) (now : Holding) → Passes ms.list.items number h now → ((p : Path) → get_by_text ms.numbers p ≡ Some number → IsPassedThrough find root kept all_begin p) → Sound ms find root kept all_begin now c lacks waits
      sound_module number now r through = record {
        apart = s.apart;
        held = λ p k x. elim (r.only_held x.number x.place x.held) [
          | inl y ↦ s.held p k (record { number = x.number; place = x.place; table = x.table; is_numbered = x.is_numbered; is_module = x.is_module; entry = x.entry; at = x.at; held = y })
          | inr y ↦ asserted_at s.apart now p k x (through p (x.is_numbered ∙ ap Some y.0)) y.1
        ];
        works = r.grows.works_only s.works;
        passed = λ p x. elim (r.only_passed x.number x.passed) [
          | inl y ↦ s.passed p (record { number = x.number; is_numbered = x.is_numbered; passed = y })
          | inr y ↦ through p (x.is_numbered ∙ ap Some y)
        ];
        known = s.known;
        steps = s.steps;
        gone = s.gone;
        rooms = s.rooms;
        onward = s.onward;
        waiting = s.waiting;
        imports = s.imports;
        missing = s.missing;
      }

      -- ---- an import is met

      pub sound_met : (v : Via) (t : Symbol) → symbol_via ms v ≡ Some t → (new : Chains) → state_at c v ≡ Some New → PutsState v Met c new → ComesBy find root kept all_begin ms v → Comes find root kept all_begin t
          → Sound ms find root kept all_begin h new lacks ((t, Some v) ∷ waits)
      sound_met v t is_v new was p by comes = record {
        apart = s.apart;
        held = s.held;
        works = s.works;
        passed = s.passed;
        known = λ w k. elim (known_or ms find v t is_v c new was p w k) [ inl x ↦ s.known w x | inr e ↦ subst (λ x. ComesBy find root kept all_begin ms x) (sym e) by ];
        steps = λ x w y. let z = s.steps x w (subst (λ l. Contains l w) (before_same ms find v t is_v c new was p x) y) in (known_kept ms find v t is_v c new was p w z.0, z.1);
        gone = λ w g. s.gone w (gone_before ms find v t is_v c new was p w g);
        rooms = λ w u is. subst (λ x. HasRoom x.items w.«module» w.item) (sym p.before) (s.rooms w u is);
        onward = subst (λ x. LeadOn ms find x.onward.items) (sym p.links) s.onward;
        waiting = λ u b x. elim (in_cases (t, Some v) waits (u, b) x) [
          | inl e ↦ subst (λ y. Comes find root kept all_begin y) (ap (λ y. y.0) e) comes
          | inr y ↦ s.waiting u b y
        ];
        imports = λ u w x. elim (in_cases (t, Some v) waits (u, Some w) x) [
          | inl e ↦ (let f : v ≡ w = same_some (ap (λ y. y.1) e) in
              let g : t ≡ u = ap (λ y. y.0) e in
              (ap (symbol_via ms) (sym f) ∙ is_v ∙ ap Some g, subst (λ y. IsKnown new y) f (is_met_now ms find v t is_v c new was p)))
          | inr y ↦ (let z = s.imports u w y in (z.0, known_kept ms find v t is_v c new was p w z.1))
        ];
        missing = s.missing;
      }

      -- ---- a chain goes on from an import to another

      module _ (from v : Via) (new : Chains) (a b : Symbol) (is_from : symbol_via ms from ≡ Some a) (is_v : symbol_via ms v ≡ Some b) (step : next find a ≡ leads b) (from_known : IsKnown c from) where
        one_step : IsFar find a (symbol_via ms v) 1
        one_step = record { last = b; by = a.home; more = []; is_last = is_v; chain = onto step here; count = omega arith }

        module _ (g : GoesOn ms from v c new) where
          way : IsFar find a (symbol_via ms g.last) 1
          way = elim (g.finds.comes find tabled s.onward b is_v) [
            | inl e ↦ subst (λ x. IsFar find a (symbol_via ms x) 1) e one_step
            | inr x ↦ less_far find a (symbol_via ms g.last) 2 1 (far_then find a b (symbol_via ms g.last) 1 (subst (λ o. IsFar find a o 1) is_v one_step) x) (omega arith)
          ]

          state_same : (w : Via) → state_at new w ≡ state_at c w
          state_same w = ap (λ x. cell x.items w.«module» w.item) g.states

          before_or : (w x : Via) → Contains (before_at new w) x → before_at new v ≡ before_at c v ++ from ∷ [] → Contains (before_at c w) x ⊎ ((w ≡ v) × (x ≡ from))
          before_or w x y room = elim (same_place w.«module» w.item v.«module» v.item) [
            | inl e ↦ (let f : w ≡ v = (λ i. record { «module» = e.0 i; item = e.1 i }) in
                elim (Contains-push_cases (before_at c v) from x (subst (λ l. Contains l x) (ap (before_at new) f ∙ room) y)) [
                  | inl z ↦ inl (subst (λ k. Contains (before_at c k) x) (sym f) z)
                  | inr z ↦ inr (f, sym z)
                ])
            | inr n ↦ inl (subst (λ z. Contains (list_of z) x) (g.steps.others w.«module» w.item n) y)
          ]

          room : before_at new v ≡ before_at c v ++ from ∷ []
          room = g.steps.there (s.rooms v b is_v)

          pub sound_goes_on : Sound ms find root kept all_begin h new lacks waits
          sound_goes_on = record {
            apart = s.apart;
            held = s.held;
            works = s.works;
            passed = s.passed;
            known = λ w k. s.known w (sym (ap is_met (state_same w)) ∙ k);
            steps = λ w x y. elim (before_or w x y room) [
              | inl z ↦ (let k = s.steps w x z in (ap is_met (state_same x) ∙ k.0, k.1))
              | inr e ↦ (
                ap is_met (state_same x) ∙ subst (λ k. IsKnown c k) (sym e.1) from_known,
                subst (λ k. LeadsOver ms find x k) (sym e.0) (subst (λ k. LeadsOver ms find k v) (sym e.1) (record { first = a; second = b; is_first = is_from; is_second = is_v; step = step })),
              )
            ];
            gone = λ w k. s.gone w (sym (state_same w) ∙ k);
            rooms = λ w u is. g.steps.room w.«module» w.item (s.rooms w u is);
            onward = λ w u is. elim (onward_now g.mid (onward_of new) from g.last g.leads w) [
              | inl e ↦ elim (g.finds.shortens.right find tabled s.onward w u is) [
                | inl f ↦ inl (e ∙ f)
                | inr f ↦ inr (subst (λ x. IsFar find u (symbol_via ms x) 1) (sym e) f)
              ]
              | inr e ↦ inr (subst (λ x. IsFar find u (symbol_via ms x) 1) (sym e.1) (subst (λ x. IsFar find x (symbol_via ms g.last) 1) (same_some (sym is_from ∙ ap (symbol_via ms) (sym e.0) ∙ is)) way))
            ];
            waiting = s.waiting;
            imports = λ t w x. let y = s.imports t w x in (y.0, ap is_met (state_same w) ∙ y.1);
            missing = s.missing;
          }

        -- it goes round

        module _ (t : TurnsBack ms from v c new) where
          pub goes_round : Loops find a
          goes_round = at t.result t.finds.comes t.back
            where
              round : IsFar find b (Some a) 1 → Loops find a
              round f = record {
                there = a;
                before = [];
                onward = here;
                first = a.home;
                more = f.by ∷ f.more;
                back = onto step (subst (λ x. Leads find b (f.by ∷ f.more) x) (sym (same_some f.is_last)) f.chain);
              }

              itself_again : b ≡ a → Loops find a
              itself_again e = record { there = a; before = []; onward = here; first = a.home; more = []; back = onto step (subst (λ x. Leads find b [] x) e here) }

              at : (r : Option Via)
                  → ((f : Finder) → AreTabled ms f → LeadOn ms f (onward_of c) → (u : Symbol) → symbol_via ms v ≡ Some u → ComesToLast ms f (onward_of new) v u r) → IsBack from r → Loops find a
              at None comes back = loops_behind find (onto step here) (comes find tabled s.onward b is_v)
              at (Some last) comes back = elim (comes find tabled s.onward b is_v) [
                | inl e ↦ itself_again (same_some (sym is_v ∙ ap (symbol_via ms) (e ∙ back) ∙ is_from))
                | inr f ↦ round (subst (λ o. IsFar find b o 1) (ap (symbol_via ms) back ∙ is_from) f)
              ]

          pub sound_turns : Sound ms find root kept all_begin h new lacks waits
          sound_turns = record {
            apart = s.apart;
            held = s.held;
            works = s.works;
            passed = s.passed;
            known = λ w k. s.known w (sym (ap is_met (state_same_too w)) ∙ k);
            steps = λ w x y. let k = s.steps w x (subst (λ z. Contains (list_of (cell z.items w.«module» w.item)) x) t.before y) in (ap is_met (state_same_too x) ∙ k.0, k.1);
            gone = λ w k. s.gone w (sym (state_same_too w) ∙ k);
            rooms = λ w u is. subst (λ x. HasRoom x.items w.«module» w.item) (sym t.before) (s.rooms w u is);
            onward = t.finds.shortens.right find tabled s.onward;
            waiting = s.waiting;
            imports = λ u w x. let y = s.imports u w x in (y.0, ap is_met (state_same_too w) ∙ y.1);
            missing = s.missing;
          }
            where
              state_same_too : (w : Via) → state_at new w ≡ state_at c w
              state_same_too w = ap (λ x. cell x.items w.«module» w.item) t.states

    -- an import is met, whatever was known of it
    pub sound_meets : (h : Holding) (c : Chains) (lacks : Bool) (waits : List Waiting) (v : Via) (t : Symbol) (mid : Chains) → symbol_via ms v ≡ Some t → (o : Option State) → state_at c v ≡ o → Meets v c o mid → ComesBy find root kept all_begin ms v
        → Comes find root kept all_begin t → Sound ms find root kept all_begin h c lacks waits → Sound ms find root kept all_begin h mid lacks waits
    sound_meets h c lacks waits v t mid is_v None was m by comes s = subst (λ x. Sound ms find root kept all_begin h x lacks waits) (sym m) s
    sound_meets h c lacks waits v t mid is_v (Some New) was m by comes s =
        sound_waits h mid lacks ((t, Some v) ∷ waits) (sound_met h c lacks waits s v t is_v mid was m by comes) waits (λ x d. later_in x (t, Some v) waits d)
    sound_meets h c lacks waits v t mid is_v (Some Met) was m by comes s = subst (λ x. Sound ms find root kept all_begin h x lacks waits) (sym m) s
    sound_meets h c lacks waits v t mid is_v (Some Passed) was m by comes s = subst (λ x. Sound ms find root kept all_begin h x lacks waits) (sym m) s

    -- a chain goes on, from an import or from a name that is used
    pub sound_steps : (h : Holding) (c new : Chains) (lacks : Bool) (waits : List Waiting) (b : Option Via) (v : Via) (a t : Symbol) → ((w : Via) → b ≡ Some w → (symbol_via ms w ≡ Some a) × IsKnown c w) → symbol_via ms v ≡ Some t → next find a ≡ leads t
        → StepsOn ms b v c new → Sound ms find root kept all_begin h c lacks waits → Sound ms find root kept all_begin h new lacks waits
    sound_steps h c new lacks waits None v a t from is_v step g s = subst (λ x. Sound ms find root kept all_begin h x lacks waits) (sym g) s
    sound_steps h c new lacks waits (Some w) v a t from is_v step g s = sound_goes_on h c lacks waits s w v new a t (from w refl).0 is_v step (from w refl).1 g

    -- ---- references of a place that is held

    pub references_used : (h : Holding) (c : Chains) (lacks : Bool) (waits : List Waiting) → Sound ms find root kept all_begin h c lacks waits → (p : Path) (k : ℕ) (x : HoldsAt ms h p k) (r : ℕ) (uses : Vec ℕ Global)
        → slice_get x.table.uses.items x.place ≡ Some uses → Contains uses.items r → r < length x.table.list.references.keys → IsReference find root kept all_begin ms x.number r
    references_used h c lacks waits s p k x r uses is there within =
        let y = stood s.apart h p k x in
        let same : y.uses ≡ uses = same_some (sym y.are_uses ∙ is) in
        record {
          path = p;
          outline = y.outline;
          occurring = use_at x.table.list r;
          is_use = record { table = x.table; is_there = x.is_module; is_numbered = x.is_numbered; is_module = y.is_at.is_module; within = within; is_use = refl };
          used = record {
            place = k;
            entry = entry_said x.table.list x.entry.place y.uses.items;
            is_at = y.is_at;
            reached = s.held p k x;
            used = in_map (use_at x.table.list) y.uses.items r (subst (λ (v : Vec ℕ Global). Contains v.items r) (sym same) there);
          };
        }

    pub place_references : (h : Holding) (c : Chains) (lacks : Bool) (waits : List Waiting) → Sound ms find root kept all_begin h c lacks waits → (n j : ℕ) → Holds h n j → (r : ℕ) → Contains (uses_in (slice_get ms.list.items n) j) r
        → IsReference find root kept all_begin ms n r
    place_references h c lacks waits s n j held r there = at (slice_get ms.list.items n) refl there
      where
        beside : (us : List (Vec ℕ Global)) (ps : List Place) (k : ℕ) (u : Vec ℕ Global) → length us ≡ length ps → slice_get us k ≡ Some u → (p : Place) × (slice_get ps k ≡ Some p)
        beside [] ps k u e is = absurd (cc)
        beside (x ∷ us) [] k u e is = absurd (omega (arith, e))
        beside (x ∷ us) (p ∷ ps) zero u e is = (p, refl)
        beside (x ∷ us) (p ∷ ps) (suc k) u e is = beside us ps k u (omega (arith, e)) is

        at_place : (one : Module) → slice_get ms.list.items n ≡ Some one → (uses : Vec ℕ Global) → slice_get one.uses.items j ≡ Some uses → Contains uses.items r → (p : Place) → slice_get one.places.items j ≡ Some p
            → (b : Bool) → is_void p.kind ≡ b → IsReference find root kept all_begin ms n r
        at_place one is uses are d p there true v = absurd (in_none r (subst (λ l. Contains l r) ((s.apart.uses n one is).voids j p uses there v are) d))
        at_place one is uses are d p there false v =
            let home = string_bytes one.target.printed_path in
            let x : HoldsAt ms h home (place_number one.places.items j) = record {
              number = n;
              place = j;
              table = one;
              is_numbered = s.apart.numbered n one is;
              is_module = is;
              entry = record { place = p; is_there = there; is_entry = v };
              at = refl;
              held = held;
            } in
            let t = (outline_at home n one (s.apart.numbered n one is) is).2 in
            let numbered = All-contains (λ q. q < length one.list.references.keys) uses.items r
            (All-contains (λ (v : Vec ℕ Global). All (λ q. q < length one.list.references.keys) v.items) one.uses.items uses t.numbered (to_contains one.uses.items j uses are)) d in
            references_used h c lacks waits s home (place_number one.places.items j) x r uses are d numbered

        in_row : (one : Module) → slice_get ms.list.items n ≡ Some one → (o : Option (Vec ℕ Global)) → slice_get one.uses.items j ≡ o → Contains (references_of o) r → IsReference find root kept all_begin ms n r
        in_row one is None e d = absurd (in_none r d)
        in_row one is (Some uses) e d =
            let p = beside one.uses.items one.places.items j uses (s.apart.uses n one is).rows e in
            at_place one is uses e d p.0 p.1 (is_void p.0.kind) refl

        at : (o : Option Module) → slice_get ms.list.items n ≡ o → Contains (uses_in o j) r → IsReference find root kept all_begin ms n r
        at None e d = absurd (in_none r d)
        at (Some one) e d = in_row one e (slice_get one.uses.items j) refl d

    -- ---- the parts of a search change places

    pub sound_same : (h now : Holding) (c new : Chains) (b lacks : Bool) (waits : List Waiting) → now ≡ h → new ≡ c → lacks ≡ b → Sound ms find root kept all_begin h c b waits → Sound ms find root kept all_begin now new lacks waits
    sound_same h now c new b lacks waits e f g s =
        subst (λ x. Sound ms find root kept all_begin x new lacks waits) (sym e)
        (subst (λ x. Sound ms find root kept all_begin h x lacks waits) (sym f) (subst (λ x. Sound ms find root kept all_begin h c x waits) (sym g) s))
