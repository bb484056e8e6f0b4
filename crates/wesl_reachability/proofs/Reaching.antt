-- A search that is done holds all that is reached.
use Rattle.std.proofs.Common.{◌≡◌, refl, sym, ap, ◌∙◌, subst, ℕ, zero, suc, ◌+◌, ◌<◌, ◌⊎◌, inl, inr, List, [], ◌∷◌, ◌++◌, map, length, take, Option, Some, None, Bool, true, false, arith}
use Rattle.std.specs.Prelude.{slice_get, Vec, if◌then◌else◌}
use Rattle.std.specs.BTreeMap.{get_by_text}
use Rattle.std.specs.HashMap as h
use Rattle.std.specs.List.{All, Contains, filter}
use Rattle.std.specs.declared.alloc.Global.{Global}
use Rattle.std.proofs.lemmas.List.Elements.{All-contains}
use Rattle.wgsl_base.proofs.Members.{to_contains, from_contains, from_map, in_cases, in_none}
use Rattle.wesl_chains.specs.Outlines.{Name, Path, Symbol, Use, assertion, Entry, Outline, Finder}
use Rattle.wesl_chains.specs.Senses.{Sense, own, imported, bare, free, sense}
use Rattle.wesl_chains.specs.Chains.{Step, stands, leads, lacks, hides, unknown, next, Outcome, declared_at, unloaded, missing, private, outcome_at, Leads, here, onto, Loops, Ends, comes_to, is_endless, Denotes, by_own, by_item, by_bare}
use Rattle.wesl_chains.specs.Reaching.{IsAt, Begins, Reached, begins, onward, asserted, IsPassedThrough, the_root, by_chain, IsAsked, denotes_nothing, IsRefusedAt}
use Rattle.wesl_chains.proofs.Loops.{same_some, loops_shift, ends_once}
use Rattle.wesl_reachability.proofs.Entries.{entry_stands, same_entry}
use Rattle.wesl_mark.specs.declared.mark.MarkList.{MarkList}
use Rattle.wesl_mark.specs.declared.place.Place.{Place}
use Rattle.wesl_mark.specs.declared.place.Kind as code
use Rattle.wesl_mark.specs.declared.place.Kind.TheVariants as kind
use Rattle.wesl_module_index.specs.declared.module.Module.{Module}
use Rattle.wesl_module_index.specs.declared.module.Meaning.{Meaning}
use Rattle.wesl_module_index.specs.declared.module.Meaning.TheVariants.{Declared}
use Rattle.wesl_module_index.specs.declared.modules.Modules.{Modules}
use Rattle.wesl_module_index.specs.Tables.{is_void, is_entry, place_number, use_at, kind_said, entry_said, entries_said, IsTabled}
use Rattle.wesl_module_index.specs.Loaded.{numbered_module, module_at, place_in, place_at, AreSame, AreTabled, IsUse}
use Rattle.wesl_name_resolution.specs.declared.denote.Via.{Via}
use Rattle.wesl_name_resolution.specs.Links.{symbol_via, meaning_in, IsMeant, sought_in}
use Rattle.wesl_reachability.specs.declared.chains.Chains.{Chains}
use Rattle.wesl_reachability.specs.declared.holding.Holding.{Holding}
use Rattle.wesl_reachability.specs.Cells.{Rows, IsSet}
use Rattle.wesl_reachability.specs.Holding.{spot_of, Holds, IsPassed, StandsAt}
use Rattle.wesl_reachability.specs.Asking.{Waiting}
use Rattle.wesl_reachability.specs.Searching.{IsEntry, IsKnown, IsGone, StepDone, IsSought, SenseDone, Searched}
use Rattle.wesl_reachability.specs.Closing.{AreFollowed, IsFollowed}
use Rattle.wesl_reachability.specs.Held.{HoldsAt, IsPassedAt, AreUnloaded, AsksFor, HoldsAll}

-- the assertion that an entry is stands there as one
kind_assertion : (k : code.Kind) → kind_said k ≡ assertion → k ≡ kind.Assertion
kind_assertion kind.Directive e = absurd (cc)
kind_assertion kind.Void e = absurd (cc)
kind_assertion kind.Assertion e = refl
kind_assertion kind.Variable e = absurd (cc)
kind_assertion kind.Alias e = absurd (cc)
kind_assertion (kind.Struct members) e = absurd (cc)
kind_assertion (kind.Function parameters true) e = absurd (cc)
kind_assertion (kind.Function parameters false) e = absurd (cc)

-- ---- what outcomes steps have

stands_at : (t : Symbol) (x : Step) (more : List Path) (n : Path) (j : ℕ) → outcome_at t x ≡ Some (more, declared_at n j) → (x ≡ stands j) × (more ≡ t.home ∷ []) × (t.home ≡ n)
stands_at t (stands k) more n j e = let f : t.home ∷ [] ≡ more = ap (λ z. z.0) (same_some e) in let g : declared_at t.home k ≡ declared_at n j = ap (λ z. z.1) (same_some e) in
    let a : t.home ≡ n = cc in let b : k ≡ j = cc in (ap stands b, sym f, a)
stands_at t (leads u) more n j e = absurd (cc)
stands_at t lacks more n j e = let g : missing t ≡ declared_at n j = ap (λ z. z.1) (same_some e) in absurd (cc)
stands_at t hides more n j e = let g : private t ≡ declared_at n j = ap (λ z. z.1) (same_some e) in absurd (cc)
stands_at t unknown more n j e = let g : unloaded t ≡ declared_at n j = ap (λ z. z.1) (same_some e) in absurd (cc)

unknown_at : (t : Symbol) (x : Step) (more : List Path) (u : Symbol) → outcome_at t x ≡ Some (more, unloaded u) → (x ≡ unknown) × (t ≡ u)
unknown_at t (stands k) more u e = let g : declared_at t.home k ≡ unloaded u = ap (λ z. z.1) (same_some e) in absurd (cc)
unknown_at t (leads v) more u e = absurd (cc)
unknown_at t lacks more u e = let g : missing t ≡ unloaded u = ap (λ z. z.1) (same_some e) in absurd (cc)
unknown_at t hides more u e = let g : private t ≡ unloaded u = ap (λ z. z.1) (same_some e) in absurd (cc)
unknown_at t unknown more u e = let g : unloaded t ≡ unloaded u = ap (λ z. z.1) (same_some e) in let f : t ≡ u = cc in (refl, f)

nothing_at : (t : Symbol) (x : Step) (more : List Path) (r : Outcome) → outcome_at t x ≡ Some (more, r) → denotes_nothing r ≡ true → (x ≡ lacks) ⊎ (x ≡ hides)
nothing_at t (stands k) more r e n = let g : false ≡ true = ap (λ z. denotes_nothing z.1) (same_some e) ∙ n in absurd (cc)
nothing_at t (leads v) more r e n = absurd (cc)
nothing_at t lacks more r e n = inl refl
nothing_at t hides more r e n = inr refl
nothing_at t unknown more r e n = let g : false ≡ true = ap (λ z. denotes_nothing z.1) (same_some e) ∙ n in absurd (cc)

module_meant : (ms : List Module) (n : ℕ) (x : Name) (g : Meaning) → meaning_in (slice_get ms n) x ≡ Some g → (one : Module) × (slice_get ms n ≡ Some one) × (h.get_by_text one.scope x ≡ Some g)
module_meant ms n x g is = at (slice_get ms n) refl is
  where
    at : (o : Option Module) → slice_get ms n ≡ o → meaning_in o x ≡ Some g → (one : Module) × (slice_get ms n ≡ Some one) × (h.get_by_text one.scope x ≡ Some g)
    at None e f = absurd (cc)
    at (Some one) e f = (one, e, f)

module_sought : (ms : List Module) (n r : ℕ) (g : _) → sought_in (slice_get ms n) r ≡ Some g → (one : Module) × (slice_get ms n ≡ Some one) × (slice_get one.sought.items r ≡ Some g)
module_sought ms n r g is = at (slice_get ms n) refl is
  where
    at : (o : Option Module) → slice_get ms n ≡ o → sought_in o r ≡ Some g → (one : Module) × (slice_get ms n ≡ Some one) × (slice_get one.sought.items r ≡ Some g)
    at None e f = absurd (cc)
    at (Some one) e f = (one, e, f)

-- ---- it is done

module _ (ms : Modules) (find : Finder) (tabled : AreTabled ms find) (h : Holding) (c : Chains) (flags : Rows Bool) (waits : List Waiting) (s : Searched ms find h c flags waits) (none : AreUnloaded find waits)
    (done : (i : ℕ) (n j : ℕ) → slice_get h.work.items i ≡ Some (spot_of n j) → IsFollowed ms flags (spot_of n j)) where
  held_there : (p : Path) (k n j : ℕ) (one : Module) → get_by_text ms.numbers p ≡ Some n → slice_get ms.list.items n ≡ Some one → IsEntry one j → place_at ms (spot_of n j) ≡ k → Holds h n j → HoldsAt ms h p k
  held_there p k n j one numbered is entry at held = record {
    number = n;
    place = j;
    table = one;
    is_numbered = numbered;
    is_module = is;
    entry = entry;
    at = ap (λ o. place_in o j) (sym is) ∙ at;
    held = held;
  }

  by_scope : (x : Symbol) (n j k : ℕ) → IsMeant ms x n (Declared j) → place_at ms (spot_of n j) ≡ k → Holds h n j → HoldsAt ms h x.home k
  by_scope x n j k is at held = let one = module_meant ms.list.items n x.name (Declared j) is.1 in
      held_there x.home k n j one.0 is.0 one.1 (s.declared.scopes n j one.0 x.name one.1 one.2) at held

  -- nothing waits that is known
  not_waiting : (x : Symbol) (b : Option Via) → (next find x ≡ unknown → ⊥) → IsSought ms find h c waits x b → StepDone ms h c x b (next find x)
  not_waiting x b known (inl w) = absurd (known (none (x, b) w))
  not_waiting x b known (inr d) = d

  -- a chain from an import comes to a declaration
  arrives : (v : Via) (x : Symbol) → IsKnown c v → symbol_via ms v ≡ Some x → (t : Symbol) (ps : List Path) → Leads find x ps t → (k : ℕ) → next find t ≡ stands k
      → IsGone c v × HoldsAt ms h t.home k × ((q : Path) → Contains (ps ++ t.home ∷ []) q → IsPassedAt ms h q)
  arrives v x known is t ps here k e =
      let d = not_waiting x (Some v) (λ f. let g : stands k ≡ unknown = sym e ∙ f in absurd (cc)) (s.sought v x known is) in
      let y : StepDone ms h c x (Some v) (stands k) = subst (λ z. StepDone ms h c x (Some v) z) e d in (
        y.6,
        by_scope x y.0 y.1 k y.2 y.3 y.4,
        λ q z. elim (in_cases x.home [] q z) [
          | inl f ↦ subst (λ w. IsPassedAt ms h w) f (record { number = y.0; is_numbered = y.2.0; passed = y.5 })
          | inr f ↦ absurd (in_none q f)
        ],
      )
  arrives v x known is t ps (onto {t = to} {ps = rest} first l) k e =
      let d = not_waiting x (Some v) (λ f. let g : leads to ≡ unknown = sym first ∙ f in absurd (cc)) (s.sought v x known is) in
      let y : StepDone ms h c x (Some v) (leads to) = subst (λ z. StepDone ms h c x (Some v) z) first d in
      let on = arrives y.0 to y.3 y.2 t rest l k e in (
        s.closed y.0 v y.4 on.0,
        on.1,
        λ q z. elim (in_cases x.home (rest ++ t.home ∷ []) q z) [
          | inl f ↦ subst (λ w. IsPassedAt ms h w) f (record { number = y.0.«module»; is_numbered = y.1.0; passed = s.gone y.0 on.0 })
          | inr f ↦ on.2 q f
        ],
      )

  -- from a reference
  comes : (x : Symbol) → IsSought ms find h c waits x None → (t : Symbol) (ps : List Path) → Leads find x ps t → (k : ℕ) → next find t ≡ stands k
      → HoldsAt ms h t.home k × ((q : Path) → Contains (ps ++ t.home ∷ []) q → IsPassedAt ms h q)
  comes x sought t ps here k e =
      let d = not_waiting x None (λ f. let g : stands k ≡ unknown = sym e ∙ f in absurd (cc)) sought in
      let y : StepDone ms h c x None (stands k) = subst (λ z. StepDone ms h c x None z) e d in (
        by_scope x y.0 y.1 k y.2 y.3 y.4,
        λ q z. elim (in_cases x.home [] q z) [
          | inl f ↦ subst (λ w. IsPassedAt ms h w) f (record { number = y.0; is_numbered = y.2.0; passed = y.5 })
          | inr f ↦ absurd (in_none q f)
        ],
      )
  comes x sought t ps (onto {t = to} {ps = rest} first l) k e =
      let d = not_waiting x None (λ f. let g : leads to ≡ unknown = sym first ∙ f in absurd (cc)) sought in
      let y : StepDone ms h c x None (leads to) = subst (λ z. StepDone ms h c x None z) first d in
      let on = arrives y.0 to y.3 y.2 t rest l k e in (
        on.1,
        λ q z. elim (in_cases x.home (rest ++ t.home ∷ []) q z) [
          | inl f ↦ subst (λ w. IsPassedAt ms h w) f (record { number = y.0.«module»; is_numbered = y.1.0; passed = s.gone y.0 on.0 })
          | inr f ↦ on.2 q f
        ],
      )

  -- a chain stops where nothing is loaded, and nowhere else
  data Stops (t : Symbol) : Type 0 where
    asks : {b : Option Via} → Contains waits (t, b) → Stops t
    arrived : {k : ℕ} → next find t ≡ stands k → Stops t

  stops_there : (t : Symbol) (b : Option Via) → IsSought ms find h c waits t b → ((u : Symbol) → next find t ≡ leads u → ⊥) → Stops t
  stops_there t b (inl w) end = asks w
  stops_there t b (inr d) end = at (next find t) refl d
    where
      at : (x : Step) → next find t ≡ x → StepDone ms h c t b x → Stops t
      at (stands k) e y = arrived e
      at (leads u) e y = absurd (end u e)
      at lacks e y = absurd y
      at hides e y = absurd y
      at unknown e y = absurd y

  stops_behind : (v : Via) (x : Symbol) → IsKnown c v → symbol_via ms v ≡ Some x → (t : Symbol) (ps : List Path) → Leads find x ps t → ((u : Symbol) → next find t ≡ leads u → ⊥) → Stops t
  stops_behind v x known is t ps here end = stops_there x (Some v) (s.sought v x known is) end
  stops_behind v x known is t ps (onto {t = to} {ps = rest} first l) end =
      let d = not_waiting x (Some v) (λ f. let g : leads to ≡ unknown = sym first ∙ f in absurd (cc)) (s.sought v x known is) in
      let y : StepDone ms h c x (Some v) (leads to) = subst (λ z. StepDone ms h c x (Some v) z) first d in
      stops_behind y.0 to y.3 y.2 t rest l end

  stops : (x : Symbol) → IsSought ms find h c waits x None → (t : Symbol) (ps : List Path) → Leads find x ps t → ((u : Symbol) → next find t ≡ leads u → ⊥) → Stops t
  stops x sought t ps here end = stops_there x None sought end
  stops x sought t ps (onto {t = to} {ps = rest} first l) end =
      let d = not_waiting x None (λ f. let g : leads to ≡ unknown = sym first ∙ f in absurd (cc)) sought in
      let y : StepDone ms h c x None (leads to) = subst (λ z. StepDone ms h c x None z) first d in
      stops_behind y.0 to y.3 y.2 t rest l end

  -- no chain goes round
  no_round : (x : Symbol) (t : Symbol) (ps : List Path) → Leads find x ps t → (next find t ≡ unknown) ⊎ ((k : ℕ) × (next find t ≡ stands k)) → Loops find x → ⊥
  no_round x t ps l (inl e) r = let same : unloaded t ≡ missing x = (ends_once find (comes_to {more = []} l (ap (outcome_at t) e)) (is_endless r)).1 in absurd (cc)
  no_round x t ps l (inr (k, e)) r = let same : declared_at t.home k ≡ missing x = (ends_once find (comes_to {more = t.home ∷ []} l (ap (outcome_at t) e)) (is_endless r)).1 in absurd (cc)

  ends_behind : (v : Via) (x : Symbol) → IsKnown c v → symbol_via ms v ≡ Some x → Loops find x → ⊥
  ends_behind v x known is r = let e = s.linked.ended v x known is in no_round x e.last e.chain.0 e.chain.1 (elim e.settled [
    | inl y ↦ inr y
    | inr y ↦ inl (none (e.last, Some e.via) y)
  ]) r

  no_loop_from : (x : Symbol) → IsSought ms find h c waits x None → Loops find x → ⊥
  no_loop_from x sought r = at (next find x) refl
    where
      at : (y : Step) → next find x ≡ y → ⊥
      at (stands k) e = no_round x x [] here (inr (k, e)) r
      at (leads to) e =
          let d = not_waiting x None (λ f. let g : leads to ≡ unknown = sym e ∙ f in absurd (cc)) sought in
          let z : StepDone ms h c x None (leads to) = subst (λ w. StepDone ms h c x None w) e d in
          ends_behind z.0 to z.3 z.2 (loops_shift find e r)
      at lacks e = let z = not_waiting x None (λ f. let g : lacks ≡ unknown = sym e ∙ f in absurd (cc)) sought in subst (λ w. StepDone ms h c x None w) e z
      at hides e = let z = not_waiting x None (λ f. let g : hides ≡ unknown = sym e ∙ f in absurd (cc)) sought in subst (λ w. StepDone ms h c x None w) e z
      at unknown e = no_round x x [] here (inl e) r

  -- ---- references of places that are held

  table_at : (p : Path) (n : ℕ) (one : Module) (o : Outline) → get_by_text ms.numbers p ≡ Some n → slice_get ms.list.items n ≡ Some one → find p ≡ Some o → IsTabled one o
  table_at p n one o numbered is found =
      let there : module_at ms p ≡ Some one = ap (numbered_module ms) numbered ∙ is in
      subst (λ y. AreSame y (Some o)) there (subst (λ z. AreSame (module_at ms p) z) found (tabled p))

  -- what is used there is done
  used : (p : Path) (k : ℕ) (o : Outline) (e : Entry) (u : Use) → HoldsAt ms h p k → IsAt find p k o e → Contains e.uses u → (n : ℕ) × (r : ℕ) × (get_by_text ms.numbers p ≡ Some n) × SenseDone ms find h c waits n r (sense o u)
  used p k o e u held at there =
      let t = table_at p held.number held.table o held.is_numbered held.is_module at.is_module in
      let x = entry_stands held.table.list held.table.places.items held.table.uses.items k e (subst (λ l. slice_get l k ≡ Some e) (sym t.entries) at.stands_there) in
      let same : held.place ≡ x.place = same_entry held.table.places.items held.place x.place held.entry.place x.what held.entry.is_there held.entry.is_entry x.is_there x.no_void (held.at ∙ sym x.number) in
      let us : slice_get held.table.uses.items held.place ≡ Some x.references = ap (slice_get held.table.uses.items) same ∙ x.are_uses in
      let r = from_map (use_at held.table.list) x.references.items u (subst (λ y. Contains y.uses u) x.is_said there) in
      let w = s.works held.number held.place held.held in
      let i = from_contains h.work.items (spot_of held.number held.place) w in
      let inside : r.0 < length held.table.list.references.keys = numbered held.table t held.place x.references us r.0 r.1 in
      let flag = done i.0 held.number held.place i.1 held.table x.references held.is_module us r.0 r.1 (s.rooms held.number r.0 held.table held.is_module inside) in (
        held.number,
        r.0,
        held.is_numbered,
        s.handled held.number r.0 flag p o u (record {
          table = held.table;
          is_there = held.is_module;
          is_numbered = held.is_numbered;
          is_module = at.is_module;
          within = inside;
          is_use = r.2;
        }),
      )
    where
      numbered : (one : Module) → IsTabled one o → (j : ℕ) (references : Vec ℕ Global) → slice_get one.uses.items j ≡ Some references → (r : ℕ) → Contains references.items r → r < length one.list.references.keys
      numbered one t j references is r c =
          All-contains (λ q. q < length one.list.references.keys) references.items r
          (All-contains (λ (v : Vec ℕ Global). All (λ q. q < length one.list.references.keys) v.items) one.uses.items references t.numbered (to_contains one.uses.items j references is)) c

  denoted : (p : Path) (k : ℕ) (o : Outline) (e : Entry) (u : Use) → HoldsAt ms h p k → IsAt find p k o e → Contains e.uses u → (ps : List Path) (n : Path) (j : ℕ) → Denotes find p o u ps (declared_at n j)
      → HoldsAt ms h n j × ((q : Path) → Contains ps q → IsPassedAt ms h q)
  denoted p k o e u held at there ps n j d = by ps (declared_at n j) d refl (used p k o e u held at there)
    where
      by : (ps : List Path) (r : Outcome) → Denotes find p o u ps r → r ≡ declared_at n j → (m : ℕ) × (i : ℕ) × (get_by_text ms.numbers p ≡ Some m) × SenseDone ms find h c waits m i (sense o u)
          → HoldsAt ms h n j × ((q : Path) → Contains ps q → IsPassedAt ms h q)
      by ps r (by_own {k = i} is) same (m, x, numbered, y) =
          let z : SenseDone ms find h c waits m x (own i) = subst (λ w. SenseDone ms find h c waits m x w) is y in
          let one = module_sought ms.list.items m x _ z.1 in
          let home : p ≡ n = cc in
          let place : i ≡ j = cc in (
            subst (λ w. HoldsAt ms h w j) home (subst (λ w. HoldsAt ms h p w) place (held_there p i m z.0 one.0 numbered one.1 (s.declared.targets m x z.0 one.0 one.1 one.2) z.2 z.3)),
            λ q w. elim (in_cases p [] q w) [
              | inl f ↦ subst (λ v. IsPassedAt ms h v) f (record { number = m; is_numbered = numbered; passed = z.4 })
              | inr f ↦ absurd (in_none q f)
            ],
          )
      by ps r (by_item {s = t} is l) same (m, x, numbered, y) =
          let z : IsSought ms find h c waits t None = subst (λ w. SenseDone ms find h c waits m x w) is y in
          ended t z ps r l same
        where
          ended : (t : Symbol) → IsSought ms find h c waits t None → (ps : List Path) (r : Outcome) → Ends find t ps r → r ≡ declared_at n j → HoldsAt ms h n j × ((q : Path) → Contains ps q → IsPassedAt ms h q)
          ended t z ps r (comes_to {t = last} {ps = qs} {more = more} l out) same =
              let a = stands_at last (next find last) more n j (out ∙ ap (λ w. Some (more, w)) same) in
              let b = comes t z last qs l j a.0 in
              (subst (λ w. HoldsAt ms h w j) a.2 b.0, λ q w. b.1 q (subst (λ v. Contains (qs ++ v) q) a.1 w))
          ended t z ps r (is_endless l) same = absurd (cc)
      by ps r (by_bare is) same y = absurd (cc)

  -- ---- all that is reached

  module _ (root : Path) (kept : List Name) (all_begin : Bool) (begun : (m : Path) (k : ℕ) → Begins find root kept all_begin m k → HoldsAt ms h m k) (rooted : IsPassedAt ms h root) where
    asserts_at : (m : Path) (k : ℕ) (o : Outline) (e : Entry) → IsPassedAt ms h m → IsAt find m k o e → e.kind ≡ assertion → HoldsAt ms h m k
    asserts_at m k o e p at is = there (slice_get ms.list.items p.number) refl
      where
        there : (x : Option Module) → slice_get ms.list.items p.number ≡ x → HoldsAt ms h m k
        there None f =
            let a : module_at ms m ≡ None = ap (numbered_module ms) p.is_numbered ∙ f in
            absurd (subst (λ y. AreSame y (Some o)) a (subst (λ y. AreSame (module_at ms m) y) at.is_module (tabled m)))
        there (Some one) f =
            let t = table_at m p.number one o p.is_numbered f at.is_module in
            let x = entry_stands one.list one.places.items one.uses.items k e (subst (λ l. slice_get l k ≡ Some e) (sym t.entries) at.stands_there) in
            let kind_is : x.what.kind ≡ kind.Assertion = kind_assertion x.what.kind (ap (λ y. y.kind) (sym x.is_said) ∙ is) in
            record {
              number = p.number;
              place = x.place;
              table = one;
              is_numbered = p.is_numbered;
              is_module = f;
              entry = record { place = x.what; is_there = x.is_there; is_entry = x.no_void };
              at = x.number;
              held = s.asserts p.number x.place p.passed (one, f, record { place = x.what; is_there = x.is_there; is_kind = kind_is });
            }

    mutual
      holds : {m : Path} {k : ℕ} → Reached find root kept all_begin m k → HoldsAt ms h m k
      holds (begins {m = m} {k = k} b) = begun m k b
      holds (onward {m = m} {n = n} {k = k} {j = j} {o = o} {e = e} {u = u} {ps = ps} r at there d) = (denoted m k o e u (holds r) at there ps n j d).0
      holds (asserted {m = m} {k = k} {o = o} {e = e} p at is) = asserts_at m k o e (passes p) at is

      passes : {m : Path} → IsPassedThrough find root kept all_begin m → IsPassedAt ms h m
      passes the_root = rooted
      passes (by_chain {m = m} {n = n} {p = p} {k = k} {j = j} {o = o} {e = e} {u = u} {ps = ps} r at there d among) = (denoted m k o e u (holds r) at there ps n j d).1 p among

    asks_for : (p : Path) → IsAsked find root kept all_begin p → AsksFor waits p
    asks_for p a = by a.passed (unloaded a.target) a.unfinished refl (used a.home a.place a.outline a.entry a.occurring (holds a.reached) a.is_at a.used)
      where
        by : (ps : List Path) (r : Outcome) → Denotes find a.home a.outline a.occurring ps r → r ≡ unloaded a.target
            → (m : ℕ) × (i : ℕ) × (get_by_text ms.numbers a.home ≡ Some m) × SenseDone ms find h c waits m i (sense a.outline a.occurring) → AsksFor waits p
        by ps r (by_own is) same y = absurd (cc)
        by ps r (by_bare is) same y = absurd (cc)
        by ps r (by_item {s = t} is l) same (m, x, numbered, y) = ended t (subst (λ w. SenseDone ms find h c waits m x w) is y) ps r l same
          where
            ended : (t : Symbol) → IsSought ms find h c waits t None → (ps : List Path) (r : Outcome) → Ends find t ps r → r ≡ unloaded a.target → AsksFor waits p
            ended t z ps r (is_endless l) same = absurd (cc)
            ended t z ps r (comes_to {t = last} {ps = qs} {more = more} l out) same =
                let b = unknown_at last (next find last) more a.target (out ∙ ap (λ w. Some (more, w)) same) in
                elim (stops t z last qs l (λ u f. let g : unknown ≡ leads u = sym b.0 ∙ f in absurd (cc))) [
                  | asks {b = v} w ↦ record { one = (last, v); is_there = w; is_home = ap (λ y. y.home) b.1 ∙ a.is_home }
                  | arrived {k = k} f ↦ (let g : unknown ≡ stands k = sym b.0 ∙ f in absurd (cc))
                ]

    none_refused : (m : Path) (k i : ℕ) (r : Outcome) → IsRefusedAt find root kept all_begin m k i r → ⊥
    none_refused m k i r a = by a.passed r a.comes a.nothing (used m k a.outline a.entry a.occurring (holds a.reached) a.is_at (to_contains a.entry.uses i a.occurring a.used))
      where
        by : (ps : List Path) (r : Outcome) → Denotes find m a.outline a.occurring ps r → denotes_nothing r ≡ true
            → (n : ℕ) × (x : ℕ) × (get_by_text ms.numbers m ≡ Some n) × SenseDone ms find h c waits n x (sense a.outline a.occurring) → ⊥
        by ps r (by_own is) nothing y = absurd (cc)
        by ps r (by_bare is) nothing (n, x, numbered, y) = subst (λ w. SenseDone ms find h c waits n x w) is y
        by ps r (by_item {s = t} is l) nothing (n, x, numbered, y) = ended t (subst (λ w. SenseDone ms find h c waits n x w) is y) ps r l nothing
          where
            ended : (t : Symbol) → IsSought ms find h c waits t None → (ps : List Path) (r : Outcome) → Ends find t ps r → denotes_nothing r ≡ true → ⊥
            ended t z ps r (is_endless l) nothing = no_loop_from t z l
            ended t z ps r (comes_to {t = last} {ps = qs} {more = more} l out) nothing = at (nothing_at last (next find last) more r out nothing)
              where
                at : (next find last ≡ lacks) ⊎ (next find last ≡ hides) → ⊥
                at (inl e) = elim (stops t z last qs l (λ u f. let g : lacks ≡ leads u = sym e ∙ f in absurd (cc))) [
                  | asks {b = v} w ↦ (let g : lacks ≡ unknown = sym e ∙ none (last, v) w in absurd (cc))
                  | arrived {k = k} f ↦ (let g : lacks ≡ stands k = sym e ∙ f in absurd (cc))
                ]
                at (inr e) = elim (stops t z last qs l (λ u f. let g : hides ≡ leads u = sym e ∙ f in absurd (cc))) [
                  | asks {b = v} w ↦ (let g : hides ≡ unknown = sym e ∙ none (last, v) w in absurd (cc))
                  | arrived {k = k} f ↦ (let g : hides ≡ stands k = sym e ∙ f in absurd (cc))
                ]

    pub holds_all : HoldsAll ms find h waits root kept all_begin
    holds_all = record { holds = λ m k r. holds r; passes = λ m p. passes p; asks = asks_for; none_refused = none_refused }
