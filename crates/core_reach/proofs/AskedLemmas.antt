-- A round behind the root's: what it goes on from, once what was asked for is loaded and sought.
use Rattle.std.proofs.Common.{◌≡◌, refl, sym, ap, ◌∙◌, subst, ℕ, inl, inr, ⊎_elim, Bool, true, false, List, [], map, Option, Some, None, arith}
use Rattle.std.specs.Prelude.{string_bytes}
use Rattle.std.specs.Option.{IsSome, option_map}
use Rattle.std.specs.Str.{bytes_eq}
use Rattle.std.specs.Ordering.{nat_cmp, is_eq}
use Rattle.std.specs.Cmp.Lexicographic.{slice_cmp}
use Rattle.std.specs.List.{All, Contains}
use Rattle.std.specs.BTreeMap.{get_by_text, is_at}
use Rattle.std.specs.declared.string.String.{String}
use Rattle.std.specs.declared.alloc.Global.{Global}
use Rattle.std.proofs.lemmas.List.Folds.{Any-from_list_any, list_any-from_Any}
use Rattle.std.proofs.lemmas.Map.Entries.{place_from_lookup}
use Rattle.std.proofs.lemmas.Map.Text.{is_eq-slice_cmp}
use Rattle.core_syntax.specs.Tree.{UnitTree}
use Rattle.core_link_spec.specs.Occurrences.{Name}
use Rattle.core_link_spec.specs.Modules.{Path, Symbol}
use Rattle.core_scopes.specs.declared.module.Module.{Module}
use Rattle.core_scopes.specs.declared.denote.Symbol.{Symbol as Place}
use Rattle.core_scopes.specs.Meanings.{Known, declared, imported, bare, known}
use Rattle.core_scopes.specs.Outcomes.{symbol_at, unloaded, Loaded, item_in, item_at, meant_as, home_of, loaded}
use Rattle.wgsl_base.proofs.Members.{to_contains, same_bytes, bytes_same}
use Rattle.core_reach.specs.declared.linking.Linking.{Linking}
use Rattle.core_reach.specs.declared.linking.AskedModule.{AskedModule}
use Rattle.core_reach.specs.Reach.{ReachedAt, onto, KeepsAll}
use Rattle.core_reach.specs.Following.{Stage, Handled, Moves, FollowedTo}
use Rattle.core_reach.specs.Stages.{place_of, AskedNames, name_asked, asks, stage}
use Rattle.core_reach.specs.Closing.{HeldNames, held_at, AllReached, IsReached, IsSound}
use Rattle.core_reach.specs.Resolved.{LoadedModules, IsKeyed}
use Rattle.core_reach.specs.Closed.{IsAskedAt, IsClosed, IsLoadedOn}
use Rattle.core_reach.specs.Underway.{NamesAll, IsConsistent, IsUnderway, LeadsOn, IsSought, EachName}
use Rattle.core_reach.proofs.RoundLemmas.{Grows, item_grown, reached_grown, followed_grown}

-- ---- what is asked for, as the table keeps it

is_same : (x y : Name) → x ≡ y → is_eq (slice_cmp nat_cmp x y) ≡ true
is_same x y e = is_eq-slice_cmp x y ∙ subst (λ z. bytes_eq x z ≡ true) e (bytes_same x)

pub name_there : (a : AskedModule) (k : String Global) → Contains a.names.keys k → name_asked (Some a) (string_bytes k) ≡ true
name_there a k c = list_any-from_Any (is_at (λ j. slice_cmp nat_cmp (string_bytes k) (string_bytes j))) a.names.keys (c.0, k, c.1, c.2, is_same (string_bytes k) (string_bytes k) refl)

pub there_name : (a : AskedModule) (x : Name) → name_asked (Some a) x ≡ true → (k : String Global) × Contains a.names.keys k × (string_bytes k ≡ x)
there_name a x e =
    let found = Any-from_list_any (is_at (λ j. slice_cmp nat_cmp x (string_bytes j))) a.names.keys e in
    (found.1, (found.0, found.2, found.3), sym (same_bytes x (string_bytes found.1) (sym (is_eq-slice_cmp x (string_bytes found.1)) ∙ found.4)))

-- the table's module at a path
abbrev pub IsEntry : AskedNames → Path → AskedModule → Type 0
IsEntry asked p a = (key : String Global) × Contains asked.entries (key, a) × (string_bytes key ≡ p)

pub entry_there : (asked : AskedNames) (p : Path) (a : AskedModule) → get_by_text asked p ≡ Some a → IsEntry asked p a
entry_there asked p a e =
    let q = place_from_lookup (λ l. is_eq (slice_cmp nat_cmp p (string_bytes l))) asked.entries a e in
    (q.1, to_contains asked.entries q.0 (q.1, a) q.2, sym (same_bytes p (string_bytes q.1) (sym (is_eq-slice_cmp p (string_bytes q.1)) ∙ q.3)))

asked_there : (asked : AskedNames) (u : Symbol) → asks asked u ≡ true → (a : AskedModule) × (get_by_text asked u.home ≡ Some a) × (name_asked (Some a) u.name ≡ true)
asked_there asked u e = at (get_by_text asked u.home) refl e
  where
    at : (o : Option AskedModule) → get_by_text asked u.home ≡ o → name_asked o u.name ≡ true → (a : AskedModule) × (get_by_text asked u.home ≡ Some a) × (name_asked (Some a) u.name ≡ true)
    at None is f = let both : false ≡ true = f in absurd (cc)
    at (Some a) is f = (a, is, f)

-- ---- more modules

pub loaded_grows : (old : LoadedModules) (asked : AskedNames) (new : LoadedModules) → IsLoadedOn old asked new → Grows (loaded old) (loaded new)
loaded_grows old asked new on p h e = at (get_by_text old p) refl e
  where
    at : (o : Option Module) → get_by_text old p ≡ o → option_map home_of o ≡ Some h → loaded new p ≡ Some h
    at None is f = absurd (cc)
    at (Some m) is f = ap (option_map home_of) (on.stay p m is) ∙ f

module _ (find more : Loaded) (grows : Grows find more) where
  not_in : (m : Path) (u v : Symbol) (o : Option Known) → item_in m u o ≡ unloaded v → ⊥
  not_in m u v None e = absurd (cc)
  not_in m u v (Some (declared j)) e = absurd (cc)
  not_in m u v (Some (imported w)) e = absurd (cc)
  not_in m u v (Some (bare w)) e = absurd (cc)

  item_unloaded : (v u : Symbol) (o : Option (Path × UnitTree)) → item_at v o ≡ unloaded u → v ≡ u
  item_unloaded v u None e = cc
  item_unloaded v u (Some h) e = absurd (not_in h.0 v u (known h.1 v.name) e)

  -- a name that denoted an item that wasn't loaded denotes what is found there
  meant_unloaded : (home : Path) (u : Symbol) (o : Option Known) → meant_as find home o ≡ unloaded u → meant_as more home o ≡ item_at u (more u.home)
  meant_unloaded home u None e = absurd (cc)
  meant_unloaded home u (Some (declared j)) e = absurd (cc)
  meant_unloaded home u (Some (imported v)) e = ap (λ (w : Symbol). item_at w (more w.home)) (item_unloaded v.1 u (find v.1.home) e)
  meant_unloaded home u (Some (bare y)) e = absurd (cc)

  pub asked_leads : (root : Path) (keep : List Name) (u : Symbol) → IsAskedAt find root keep u → (m : Path) (place : ℕ) → item_at u (more u.home) ≡ symbol_at m place
      → ReachedAt more root keep m place
  asked_leads root keep u a m place e =
      onto (reached_grown find more grows root keep a.reached) (grows a.home a.there a.found) a.stands a.occurs
      (meant_unloaded a.there.0 u (known a.there.1 a.name) a.is_unloaded ∙ e)

-- ---- what a round goes on from

-- what is sought is reached, where it is declared
abbrev pub AllLead : Linking → AskedNames → Type 0
AllLead l asked = (p : Path) (a : AskedModule) → get_by_text asked p ≡ Some a → EachName (LeadsOn l p) a.names

-- what is asked for is sought
abbrev pub EntrySought : Linking → Stage → String Global × AskedModule → Type 0
EntrySought l s e = EachName (IsSought l s (string_bytes e.0)) e.1.names

pub begins : (held : HeldNames) (asked : Symbol → Bool) (missing : Bool) (reached : List Place) → reached ≡ []
    → Moves (stage held (λ s. false) false []) (stage held asked missing reached)
begins held asked missing reached e = record {
  stays_held = λ m k h. h;
  stays_asked = λ s h. let both : false ≡ true = h in absurd (cc);
  stays_missing = λ h. let both : false ≡ true = h in absurd (cc);
  more = [];
  behind = ap (map place_of) e;
  tracked = λ m k h. inl h;
}

pub none_reached : (l : Linking) (xs : List Place) → xs ≡ [] → All (IsReached l) xs
none_reached l xs e = subst (All (IsReached l)) (sym e) (λ k d less. absurd (omega arith))

module _ (l : Linking) (old : LoadedModules) (was : HeldNames) (asked : AskedNames) (closed : IsClosed old l.root.now l.keep.now was asked) (on : IsLoadedOn old asked l.modules.now) where
  grows : Grows (loaded old) (loaded l.modules.now)
  grows = loaded_grows old asked l.modules.now on

  pub still_reached : AllReached l was
  still_reached m place some = reached_grown (loaded old) (loaded l.modules.now) grows l.root.now l.keep.now (closed.sound m place some)

  pub still_named : NamesAll l was
  still_named m place y e =
      let n = closed.named m place y e in
      record { home = n.home; found = on.stay m n.home n.found; declaration = n.declaration; stands = n.stands; named = n.named }

  pub all_lead : AllLead l asked
  all_lead p a is k c m place e =
      asked_leads (loaded old) (loaded l.modules.now) grows l.root.now l.keep.now (record { home = p; name = string_bytes k })
      (closed.asked_at (record { home = p; name = string_bytes k }) (ap (λ o. name_asked o (string_bytes k)) is ∙ name_there a k c)) m place e

  module _ (held : HeldNames) (now : AskedNames) (missing : Bool) (reached : List Place) (moves : Moves (stage was (λ s. false) false []) (stage held (asks now) missing reached))
      (sought : (e : String Global × AskedModule) → Contains asked.entries e → EntrySought l (stage held (asks now) missing reached) e) where
    sought_there : (u : Symbol) → asks asked u ≡ true → Handled (stage held (asks now) missing reached) (item_at u (loaded l.modules.now u.home))
    sought_there u e =
        let a = asked_there asked u e in
        let entry = entry_there asked u.home a.0 a.1 in
        let name = there_name a.0 u.name a.2 in
        let come = on.come u.home a.0 a.1 in
        let is = sought (entry.0, a.0) entry.1 name.0 name.1 in
        subst (λ x. Handled (stage held (asks now) missing reached) (item_at (record { home = u.home; name = x }) (loaded l.modules.now u.home))) name.2
        (subst (λ p. IsSought l (stage held (asks now) missing reached) p (string_bytes name.0)) entry.2 is come.0 come.1)

    still_loaded : (m : Path) (k : ℕ) → IsSome (held_at was m k) → (g : Path × UnitTree) × (loaded old m ≡ Some g)
    still_loaded m k some = at (held_at was m k) refl some
      where
        at : (o : Option Name) → held_at was m k ≡ o → IsSome o → (g : Path × UnitTree) × (loaded old m ≡ Some g)
        at None is h = absurd (cc)
        at (Some y) is h = let n = closed.named m k y is in (home_of n.home, ap (option_map home_of) n.found)

    followed_to : FollowedTo (loaded l.modules.now) (stage held (asks now) missing reached) 0
    followed_to m k some = ⊎_elim
        (λ before.
        let g = still_loaded m k before in
        inl (followed_grown (loaded old) (loaded l.modules.now) grows (stage was (asks asked) false []) (stage held (asks now) missing reached) refl moves.stays_held sought_there
        m k g.0 g.1 (closed.followed m k before)))
        (λ later. inr later)
        (moves.tracked m k some)

    still_kept : KeepsAll (loaded l.modules.now) l.root.now l.keep.now (held_at held)
    still_kept x c =
        let k = closed.kept x c in (
          k.0,
          k.1,
          item_grown (loaded old) (loaded l.modules.now) grows (record { home = l.root.now; name = x }) k.0 k.1 (loaded old l.root.now) refl k.2,
          moves.stays_held k.0 k.1 k.3,
        )

    pub asked_underway : IsKeyed l.modules.now → (AllLead l asked → AllReached l was → IsSound l held reached) → (IsKeyed l.modules.now → NamesAll l was → IsConsistent l held now)
        → IsUnderway l held now missing reached
    asked_underway keyed sound order = record {
      keyed = keyed;
      sound = sound all_lead still_reached;
      in_order = order keyed still_named;
      kept = still_kept;
      followed = followed_to;
    }
