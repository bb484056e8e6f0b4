-- A chain comes to a declaration, and references are followed.
use Rattle.std.proofs.Common.{◌≡◌, refl, sym, ap, ◌∙◌, subst, ℕ, zero, suc, ◌<◌, ◌⊎◌, inl, inr, List, [], ◌∷◌, ◌++◌, length, Option, Some, None, Bool, true, false, is_some, arith}
use Rattle.std.specs.Prelude.{⊤, slice_get}
use Rattle.std.specs.Option.{option_to_list}
use Rattle.std.specs.List.{Contains}
use Rattle.std.specs.HashMap.{get_by_text}
use Rattle.wgsl_base.proofs.Members.{first_in, in_cases, in_none}
use Rattle.wesl_chains.specs.Outlines.{Name, Path, Symbol, Use, Outline, Finder}
use Rattle.wesl_chains.specs.Senses.{Sense, own, imported, bare, free, sense}
use Rattle.wesl_chains.specs.Chains.{Step, stands, leads, next, Outcome, declared_at, missing, unloaded}
use Rattle.wesl_chains.proofs.Loops.{same_some}
use Rattle.wesl_module_index.specs.declared.module.Module.{Module}
use Rattle.wesl_module_index.specs.declared.module.Meaning.{Meaning}
use Rattle.wesl_module_index.specs.declared.module.Meaning.TheVariants.{Declared}
use Rattle.wesl_module_index.specs.declared.module.ReferenceTarget.TheVariants as target
use Rattle.wesl_module_index.specs.declared.modules.Modules.{Modules}
use Rattle.wesl_module_index.specs.declared.modules.DeclarationId.{DeclarationId}
use Rattle.wesl_module_index.specs.Loaded.{home_of, place_at, AreTabled, IsUse}
use Rattle.wesl_name_resolution.specs.declared.denote.Via.{Via}
use Rattle.wesl_name_resolution.specs.Links.{symbol_via, meaning_in, IsMeant, sought_in, declared_in, Beginning, known, seeks, begins}
use Rattle.wesl_reachability.specs.declared.chains.Chains.{Chains}
use Rattle.wesl_reachability.specs.declared.holding.Holding.{Holding}
use Rattle.wesl_reachability.specs.Cells.{Rows, cell, IsSet, HasRoom, Sets}
use Rattle.wesl_reachability.specs.Joining.{list_of}
use Rattle.wesl_reachability.specs.Holding.{spot_of, Holds, IsPassed, HasPlace, HasModule, Grows, HasAll, Asserts, Reaches, Passes, Arrives}
use Rattle.wesl_reachability.specs.Asking.{Waiting}
use Rattle.wesl_reachability.specs.Searching.{IsEntry, AreDeclared, IsKnown, IsGone, IsGoneOr, StepDone, SenseDone, IsHandled, Linked, Settled, Searched}
use Rattle.wesl_reachability.specs.Passing.{SameWays, IsPassing, PassesBefore}
use Rattle.wesl_reachability.proofs.Cells.{only_set, kept_room}
use Rattle.wesl_reachability.proofs.Held.{grows_same, grows_then}
use Rattle.wesl_reachability.proofs.Linking.{Drops, Adds, linked_same, linked_ends}
use Rattle.wesl_reachability.proofs.Searching.{Moves, has_all_on, searched_on}

within : {X : Type 0} (xs : List X) (i : ℕ) (x : X) → slice_get xs i ≡ Some x → i < length xs
within [] i x is = absurd (cc)
within (y ∷ xs) zero x is = omega arith
within (y ∷ xs) (suc i) x is = let h = within xs i x is in omega (arith, h)

-- ---- a declaration is reached

module _ (ms : Modules) (spot : DeclarationId) (h now : Holding) (a : Arrives ms.list.items spot h now) where
  pub arrives_grows : Grows h now
  arrives_grows = grows_then a.passes.grows a.reaches.grows

  pub arrives_asserts : HasAll ms.list.items h → Asserts ms.list.items h → Asserts ms.list.items now
  arrives_asserts all asserts m k p is =
      a.reaches.grows.stays m k (a.passes.asserts all asserts m k (subst (λ v. slice_get v.items m ≡ Some true) a.reaches.passed p) is)

  pub arrives_there : HasAll ms.list.items h → (one : Module) → slice_get ms.list.items spot.«module» ≡ Some one → IsEntry one spot.place → Holds now spot.«module» spot.place × IsPassed now spot.«module»
  arrives_there all one is entry =
      let less = within one.places.items spot.place entry.place entry.is_there in (
        a.reaches.held (a.passes.grows.room spot.«module» spot.place (all.places spot.«module» spot.place one is less)),
        a.reaches.grows.keeps spot.«module» (a.passes.passed (all.modules spot.«module» one is)),
      )

-- what a scope means
meant_module : (ms : List Module) (n : ℕ) (x : Name) (g : Meaning) → meaning_in (slice_get ms n) x ≡ Some g → (one : Module) × (slice_get ms n ≡ Some one) × (get_by_text one.scope x ≡ Some g)
meant_module ms n x g is = at (slice_get ms n) refl is
  where
    at : (o : Option Module) → slice_get ms n ≡ o → meaning_in o x ≡ Some g → (one : Module) × (slice_get ms n ≡ Some one) × (get_by_text one.scope x ≡ Some g)
    at None e f = absurd (cc)
    at (Some one) e f = (one, e, f)

module _ (ms : Modules) (find : Finder) where
  waiting_passes : (h : Holding) (c : Chains) (flags : Rows Bool) (waits : List Waiting) (s : Symbol) (b : Option Via) → Contains waits (s, b) → Searched ms find h c flags waits → IsPassing ms h c (option_to_list b)
  waiting_passes h c flags waits s b there a = record {
    all = a.all;
    asserts = a.asserts;
    published = a.linked.published;
    before_known = a.linked.before_known;
    work_known = at b there;
    closed = λ v w x g. inl (a.closed v w x g);
    gone = a.gone;
  }
    where
      at : (b : Option Via) → Contains waits (s, b) → (v : Via) → Contains (option_to_list b) v → IsKnown c v
      at None t v x = absurd (in_none v x)
      at (Some w) t v x = elim (in_cases w [] v x) [
        | inl e ↦ subst (λ z. IsKnown c z) e (a.linked.waiting s w t).1
        | inr y ↦ absurd (in_none v y)
      ]

  gone_all : (c : Chains) (b : Option Via) → ((v : Via) → Contains (option_to_list b) v → IsGone c v) → IsGoneOr c b
  gone_all c None all = tt
  gone_all c (Some v) all = all v (first_in v [])

  -- what is sought is a declaration
  pub searched_arrives : (flags : Rows Bool) (h mid now : Holding) (c new : Chains) (s : Symbol) (b : Option Via) (spot : DeclarationId) → next find s ≡ stands (place_at ms spot) → IsMeant ms s spot.«module» (Declared spot.place)
      → (waits left : List Waiting) → Drops waits (s, b) left → Contains waits (s, b) → PassesBefore ms (option_to_list b) h c mid new → Arrives ms.list.items spot mid now
      → Searched ms find h c flags waits → Searched ms find now new flags left
  searched_arrives flags h mid now c new s b spot step is waits left d there p r a =
      let after = p.passing (waiting_passes h c flags waits s b there a) in
      let one = meant_module ms.list.items spot.«module» s.name (Declared spot.place) is.1 in
      let has = has_all_on ms.list.items h mid a.all p.grows in
      let end = arrives_there ms spot mid now r has one.0 one.1 (a.declared.scopes spot.«module» spot.place one.0 s.name one.1 one.2) in
      let grows = arrives_grows ms spot mid now r in
      searched_on ms find h now c new waits left (record {
        grows = grows_then p.grows grows;
        known = λ v x. p.ways.known v ∙ x;
        gone = p.ways.gone;
        before = λ v w x. subst (λ y. Contains (list_of (cell y.items v.«module» v.item)) w) (sym p.ways.before) x;
        waits_or = λ u e y. elim (d.on (u, e) y) [
          | inl f ↦ (let at : next find u ≡ stands (place_at ms spot) = ap (λ x. next find x.0) f ∙ step in
              inr (subst (λ x. StepDone ms now new u e x) (sym at)
              (spot.«module», spot.place, subst (λ x. IsMeant ms x spot.«module» (Declared spot.place)) (sym (ap (λ x. x.0) f)) is, refl, end.0, end.1, subst (λ x. IsGoneOr new x) (sym (ap (λ x. x.1) f)) (gone_all new b after.1))))
          | inr x ↦ inl x
        ];
      }) flags a (arrives_asserts ms spot mid now r has after.0.asserts) (linked_same ms find left c new (linked_ends ms find waits left s b d (place_at ms spot) step c a.linked) p.ways)
      (λ v u x e. inl (sym (p.ways.known v) ∙ x))
      (λ v w x g. elim (after.0.closed v w x g) [ inl y ↦ y | inr y ↦ absurd (in_none w y) ])
      (λ v g. grows.keeps v.«module» (after.0.gone v g))

  -- ---- a reference waits

  pub searched_asks : (flags : Rows Bool) (h : Holding) (c : Chains) (s : Symbol) (waits more : List Waiting) → Adds waits (s, None) more → Searched ms find h c flags waits → Searched ms find h c flags more
  searched_asks flags h c s waits more d a =
      searched_on ms find h h c c waits more (record {
        grows = grows_same h;
        known = λ v x. x;
        gone = λ v x. x;
        before = λ v w x. x;
        waits_or = λ u b y. inl (d.on (u, b) y);
      }) flags a a.asserts linked (λ v u x e. inl x) a.closed a.gone
    where
      on : (t : Symbol) (v : Via) → Settled find waits t v → Settled find more t v
      on t v (inl x) = inl x
      on t v (inr x) = inr (d.on (t, Some v) x)

      linked : Linked ms find c more
      linked = let l = a.linked in record {
        states = l.states;
        onwards = l.onwards;
        befores = l.befores;
        onward = l.onward;
        stay = l.stay;
        new_last = l.new_last;
        published = l.published;
        before_known = l.before_known;
        lasts = λ v t kn e at. on t v (l.lasts v t kn e at);
        ended = λ v t kn at. let x = l.ended v t kn at in record { via = x.via; last = x.last; is_last = x.is_last; chain = x.chain; settled = on x.last x.via x.settled };
        waiting = λ t v x. elim (d.back (t, Some v) x) [
          | inl e ↦ (let f : Some v ≡ None = ap (λ y. y.1) e in absurd (cc))
          | inr y ↦ l.waiting t v y
        ];
      }

  -- ---- a reference is followed

  pub searched_flags : (h : Holding) (c : Chains) (flags now : Rows Bool) (waits : List Waiting) (m r : ℕ) → Sets flags m r now true → IsHandled ms find h c waits m r → Searched ms find h c flags waits → Searched ms find h c now waits
  searched_flags h c flags now waits m r s is a = record {
    declared = a.declared;
    all = a.all;
    works = a.works;
    asserts = a.asserts;
    directs = a.directs;
    linked = a.linked;
    sought = a.sought;
    closed = a.closed;
    gone = a.gone;
    rooms = λ n j one e less. kept_room flags m r true now s.puts n j (a.rooms n j one e less);
    handled = λ n j f. elim (only_set flags m r now s.puts n j f) [
      | inl x ↦ a.handled n j x
      | inr e ↦ subst (λ x. IsHandled ms find h c waits x j) (sym e.0) (subst (λ x. IsHandled ms find h c waits m x) (sym e.1) is)
    ];
  }

  pub searched_same_flags : (h : Holding) (c : Chains) (flags now : Rows Bool) (waits : List Waiting) → ((m k : ℕ) → cell now m k ≡ cell flags m k) → Searched ms find h c flags waits → Searched ms find h c now waits
  searched_same_flags h c flags now waits same a = record {
    declared = a.declared;
    all = a.all;
    works = a.works;
    asserts = a.asserts;
    directs = a.directs;
    linked = a.linked;
    sought = a.sought;
    closed = a.closed;
    gone = a.gone;
    rooms = λ n j one e less. ap is_some (same n j) ∙ a.rooms n j one e less;
    handled = λ n j f. a.handled n j (sym (same n j) ∙ f);
  }

  -- ---- where searches begin

  module _ (h : Holding) (c : Chains) (waits : List Waiting) (n r : ℕ) (b : Beginning) (starts : (p : Path) (o : Outline) (u : Use) → IsUse ms find n r p o u → b ≡ begins p (sense o u)) where
    by_sense : ((p : Path) (x : Sense) → b ≡ begins p x → SenseDone ms find h c waits n r x) → IsHandled ms find h c waits n r
    by_sense all p o u is = all p (sense o u) (starts p o u is)

    -- a symbol is sought
    pub handled_seeks : (s : Symbol) → b ≡ seeks s → Contains waits (s, None) → IsHandled ms find h c waits n r
    handled_seeks s is there = by_sense at
      where
        at : (p : Path) (x : Sense) → b ≡ begins p x → SenseDone ms find h c waits n r x
        at p (own k) e = let f : seeks s ≡ known (Some (declared_at p k)) = sym is ∙ e in absurd (cc)
        at p (imported t) e = let f : seeks s ≡ seeks t = sym is ∙ e in let g : s ≡ t = cc in inl (subst (λ y. Contains waits (y, None)) g there)
        at p (bare x) e = let f : seeks s ≡ known (Some (missing (record { home = p; name = x }))) = sym is ∙ e in absurd (cc)
        at p free e = tt

    -- it is known at once, and is a declaration
    pub handled_declared : (spot : DeclarationId) (home : Option Path) → b ≡ known (declared_in (place_at ms spot) home) → spot.«module» ≡ n → sought_in (slice_get ms.list.items n) r ≡ Some (target.Declared spot.place)
        → Holds h spot.«module» spot.place → IsPassed h spot.«module» → IsHandled ms find h c waits n r
    handled_declared spot home is same there held passed = by_sense (λ p x e. at p x home (sym is ∙ e))
      where
        at : (p : Path) (x : Sense) (q : Option Path) → known (declared_in (place_at ms spot) q) ≡ begins p x → SenseDone ms find h c waits n r x
        at p (own i) None e = absurd (cc)
        at p (own i) (Some q) e =
            let f : place_at ms spot ≡ i = cc in
            (spot.place, there, (λ y. place_at ms (spot_of (sym same y) spot.place)) ∙ f, subst (λ y. Holds h y spot.place) same held, subst (λ y. IsPassed h y) same passed)
        at p (imported t) q e = absurd (cc)
        at p (bare x) None e = absurd (cc)
        at p (bare x) (Some y) e = absurd (cc)
        at p free q e = tt

    -- the name is free
    pub handled_free : b ≡ known None → IsHandled ms find h c waits n r
    handled_free is = by_sense (λ p x e. at p x (sym is ∙ e))
      where
        at : (p : Path) (x : Sense) → known None ≡ begins p x → SenseDone ms find h c waits n r x
        at p (own k) e = absurd (cc)
        at p (imported t) e = absurd (cc)
        at p (bare x) e = absurd (cc)
        at p free e = tt

    -- it is known at once, and is no module's that is not loaded
    pub handled_unloaded : (s : Symbol) → b ≡ known (Some (unloaded s)) → IsHandled ms find h c waits n r
    handled_unloaded s is = by_sense (λ p x e. at p x (sym is ∙ e))
      where
        at : (p : Path) (x : Sense) → known (Some (unloaded s)) ≡ begins p x → SenseDone ms find h c waits n r x
        at p (own k) e = absurd (cc)
        at p (imported t) e = absurd (cc)
        at p (bare x) e = absurd (cc)
        at p free e = tt
