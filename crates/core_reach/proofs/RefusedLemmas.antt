-- From places to names: what is refused, what is asked for, and what is resolved.
use Rattle.std.proofs.Common.{◌≡◌, refl, sym, ap, ◌∙◌, subst, ℕ, ◌⊎◌, inl, inr, ⊎_elim, List, [], ◌∷◌, map, Bool, true, false, Option, Some, None}
use Rattle.std.specs.Prelude.{slice_get, string_bytes, if◌then◌else◌}
use Rattle.std.specs.Option.{IsSome, option_map}
use Rattle.std.specs.List.{Contains}
use Rattle.std.specs.Str.{bytes_eq}
use Rattle.std.specs.Map.{lookup}
use Rattle.std.specs.Ordering.{nat_cmp, is_eq}
use Rattle.std.specs.Cmp.Lexicographic.{slice_cmp}
use Rattle.std.specs.BTreeMap.{get_by_text, IsOrdered}
use Rattle.std.specs.declared.cmp.Ordering.{Ordering}
use Rattle.std.specs.declared.string.String.{String}
use Rattle.std.specs.declared.alloc.Global.{Global}
use Rattle.std.specs.List.Sorted.{IsStrictlySortedBy}
use Rattle.std.specs.String.{string_cmp, string_cmp_total}
use Rattle.std.proofs.lemmas.Map.Keys.{sorted_head, sorted_tail}
use Rattle.std.proofs.lemmas.Map.Text.{is_eq-slice_cmp}
use Rattle.std.proofs.lemmas.Map.Entries.{place_from_lookup, btree_map_get_place}
use Rattle.wgsl_path.specs.declared.path.ModulePath.{ModulePath}
use Rattle.core_syntax.specs.Tree.{Imp, UnitTree}
use Rattle.core_syntax.specs.View.{unit_tree}
use Rattle.core_syntax.specs.Names.{declared_name}
use Rattle.wesl_resolve.specs.Mangling.{mangled}
use Rattle.core_link_spec.specs.Occurrences.{Name, occurrences}
use Rattle.core_link_spec.specs.Modules.{Path, Symbol, Modules, IsModule, Declares, Imports, local_name, IsImport, IsImported, IsMissing, lacking, bare as is_bare, IsPrivate, IsUnloaded, IsDeclaration, Reached, IsAsked}
use Rattle.core_link_spec.specs.Modules as spec
use Rattle.core_link_spec.specs.Names.{IsPrinted, stays, is_mangled}
use Rattle.core_link_spec.specs.Rounds.{Sources, IsFirstUnkept, LoadError, missing_decl, private as is_private, IsRefusedAt, IsFirstRefused, NoneRefused, IsAscending, no_path, one_path, one_before, IsNextRound}
use Rattle.core_scopes.specs.Meanings.{Known, declared, imported, bare, known, import_known}
use Rattle.core_scopes.specs.Outcomes.{Outcome, symbol_at, unloaded, missing, private, free, Loaded, item_in, item_at, meant_as, outcome, home_of, loaded}
use Rattle.core_scopes.specs.Tells.{IsFinder, StandsAt, Tells}
use Rattle.core_scopes.specs.declared.module.Module.{Module}
use Rattle.core_reach.specs.Reach.{ReachedAt, kept, onto, Holding, Settled, IsSettled, KeepsAll, IsRooted}
use Rattle.core_reach.specs.Missing.{RefusedFor, IsMissingAt, IsFirstMissing, NoneMissing}
use Rattle.core_reach.specs.Following.{Stage, Handled, AllFollowed}
use Rattle.core_reach.specs.declared.linking.AskedModule.{AskedModule}
use Rattle.core_reach.specs.Closing.{HeldNames, held_at}
use Rattle.core_reach.specs.Stages.{AskedNames, name_asked, asks, stage}
use Rattle.core_reach.specs.Closed.{HoldsAllReached, IsFirstUndeclared, IsClosed, IsNamedAt, AreNamed, IsAskedAt, IsStopped}
use Rattle.core_reach.specs.Resolved.{HoldsReached, LoadedModules, modules_of, IsKeyed, NamesHeld, IsResolved}
use Rattle.wgsl_base.proofs.Members.{to_contains, from_contains, get_map, same_bytes, bytes_same}
use Rattle.core_scopes.proofs.ScopeLemmas.{map_get, import_means}
use Rattle.core_scopes.proofs.TellLemmas.{IsFresh, declared_known, has_declared, has_imported, tells}
use Rattle.core_reach.proofs.ReachLemmas.{found_unit, sought_at, import_found, denoted, same_place, stands_there, reached_there}

-- ---- what a unit has under a name

import_known_there : (u : UnitTree) (x : Name) → IsFresh u → Imports u x → (i : Imp) × (known u x ≡ Some (import_known i.path i.item))
import_known_there u x fresh c =
    let p = from_contains (map local_name u.imports) x c in
    let i = map_get local_name u.imports p.0 x p.1 in
    (i.0, ap (known u) (sym i.2) ∙ import_means u i.0 fresh (to_contains u.imports p.0 i.0 i.1))

-- what a unit neither declares nor imports
known_not : (u : UnitTree) (x : Name) → (Declares u x → ⊥) → (Imports u x → ⊥) → known u x ≡ None
known_not u x undeclared unimported = at (known u x) refl
  where
    at : (o : Option Known) → known u x ≡ o → o ≡ None
    at None e = refl
    at (Some (declared j)) e = absurd (undeclared (has_declared u x j e))
    at (Some (imported s)) e = absurd (unimported (has_imported u x (imported s) (λ j both. absurd (cc)) e))
    at (Some (bare y)) e = absurd (unimported (has_imported u x (bare y) (λ j both. absurd (cc)) e))

-- an item that a module only imports
only_imports : (m : Path) (s : Symbol) (u : UnitTree) → IsFresh u → (Declares u s.name → ⊥) → Imports u s.name → item_in m s (known u s.name) ≡ private s
only_imports m s u fresh undeclared has =
    let i = import_known_there u s.name fresh has in
    ap (item_in m s) i.1 ∙ at i.0.path i.0.item
  where
    at : (o : Option ModulePath) (x : Name) → item_in m s (Some (import_known o x)) ≡ private s
    at None x = refl
    at (Some path) x = refl

same_symbol : (s : Symbol) (m : Path) (x : Name) → s.home ≡ m → s.name ≡ x → s ≡ record { home = m; name = x }
same_symbol s m x home name = λ i. record { home = home i; name = name i }

-- ---- what denotes nothing

module _ (modules : Modules) (find : Loaded) (finder : IsFinder modules find) where
  module _ (m : Path × UnitTree) (here : find m.0 ≡ Some m) (x : Name) where
    item_known : (s : Symbol) (u : UnitTree) → IsImported modules m.0 x s → IsModule modules s.home u → outcome find m x ≡ item_in s.home s (known u s.name)
    item_known s u to is =
        ap (meant_as find m.0) (import_found modules find finder m here x s to) ∙ ap (item_at s) (finder.finds s.home u is)

    missing_told : {s : Symbol} → IsMissing modules m.0 x s → outcome find m x ≡ missing s
    missing_told (lacking {s} {u} to is undeclared unimported) =
        item_known s u to is ∙ ap (item_in s.home s) (known_not u s.name undeclared unimported)
    missing_told (is_bare {i} import none) =
        let unit : m ≡ (m.0, import.unit) = found_unit modules find finder m.0 import.unit m import.is_module here in
        let means = import_means import.unit i (finder.fresh m.0 (m.0, import.unit) (finder.finds m.0 import.unit import.is_module)) import.stands in
        let is : known m.1 x ≡ Some (bare i.item) =
        ap (λ (h : Path × UnitTree). known h.1 x) unit ∙ ap (known import.unit) (sym import.local) ∙ means ∙ ap (λ o. Some (import_known o i.item)) none in
        ap (meant_as find m.0) is

    private_told : (s : Symbol) → IsPrivate modules m.0 x s → outcome find m x ≡ private s
    private_told s is =
        item_known s is.unit is.imported is.is_module
        ∙ only_imports s.home s is.unit (finder.fresh s.home (s.home, is.unit) (finder.finds s.home is.unit is.is_module)) is.undeclared is.only_imported

    unloaded_told : (s : Symbol) → IsUnloaded modules m.0 x s → outcome find m x ≡ unloaded s
    unloaded_told s is =
        ap (meant_as find m.0) (import_found modules find finder m here x s is.imported) ∙ ap (item_at s) (none (find s.home) refl)
      where
        none : (o : Option (Path × UnitTree)) → find s.home ≡ o → o ≡ None
        none None e = refl
        none (Some h) e = absurd (is.unloaded h.1 (finder.found s.home h e).0)

  told_refused : (m : Path) (x : Name) (r : LoadError) (o : Outcome) → Tells modules m x o → RefusedFor o r
      → (target : Symbol) × ((IsMissing modules m x target × (r ≡ missing_decl target.home target.name)) ⊎ (IsPrivate modules m x target × (r ≡ is_private target.home target.name)))
  told_refused m x r (symbol_at n k) told why = absurd why
  told_refused m x r (unloaded s) told why = absurd why
  told_refused m x r (missing s) told why = (s, inl (told, why))
  told_refused m x r (private s) told why = (s, inr (told, why))
  told_refused m x r free told why = absurd why

  module _ (root : Path) (keep : List Name) where
    -- a declaration that is reached, by its place
    pub declared_reached : {s : Symbol} → Reached modules root keep s → (u : UnitTree) → IsModule modules s.home u → Declares u s.name
        → (j : ℕ) × StandsAt modules s.home j s × ReachedAt find root keep s.home j
    declared_reached (spec.kept {x} c) u is has =
        let t = sought_at modules find finder (record { home = root; name = x }) u is has in
        (t.0, t.2, kept c t.1)
    declared_reached (spec.onto {s} {t} {d} {x} r is c to) u at has =
        let p = from_contains is.unit.declarations d is.stands in
        let from = declared_reached r is.unit is.is_module (to_contains (map declared_name is.unit.declarations) p.0 s.name (get_map declared_name is.unit.declarations p.0 d p.1 ∙ ap (λ y. Some y) is.name)) in
        let here : find s.home ≡ Some (s.home, is.unit) = finder.finds s.home is.unit is.is_module in
        let place : p.0 ≡ from.0 = same_place modules find finder s.home from.0 p.0 s is.unit d from.1 is.is_module p.1 is.name in
        let found = denoted modules find finder (s.home, is.unit) here x to in
        (found.0, found.2, onto from.2 here (subst (λ k. slice_get is.unit.declarations k ≡ Some d) place p.1) c found.1)

    module _ (held : Holding) where
      missing_refused : HoldsReached find root keep held → (m : Path) (d o : ℕ) (r : LoadError) → IsMissingAt find held m d o r → IsRefusedAt modules root keep m d o r
      missing_refused sound m d o r at =
          let found = finder.found m at.home at.is_found in
          let s = reached_there modules find finder root keep (sound m d at.is_held) in
          let declaration = stands_there modules find finder m d s.0 at.home at.stands s.1 at.is_found at.is_there in
          let why = told_refused at.home.0 at.name r (outcome find at.home at.name) (tells modules find finder at.home (ap find found.1 ∙ at.is_found) at.name) at.why in
          record {
            unit = at.home.1;
            is_module = found.0;
            stands = at.stands;
            is_there = at.is_there;
            reached = subst (Reached modules root keep) (same_symbol s.0 m (declared_name at.stands) s.1.home (sym declaration.name)) s.2;
            name = at.name;
            occurs = at.occurs;
            target = why.0;
            why = subst (λ p. (IsMissing modules p at.name why.0 × (r ≡ missing_decl why.0.home why.0.name)) ⊎ (IsPrivate modules p at.name why.0 × (r ≡ is_private why.0.home why.0.name))) found.1 why.1;
          }

      refused_missing : HoldsAllReached find root keep held → (m : Path) (d o : ℕ) (r : LoadError) → IsRefusedAt modules root keep m d o r → IsMissingAt find held m d o r
      refused_missing whole m d o r at =
          let here : find m ≡ Some (m, at.unit) = finder.finds m at.unit at.is_module in
          let has : Declares at.unit (declared_name at.stands) = to_contains (map declared_name at.unit.declarations) d (declared_name at.stands) (get_map declared_name at.unit.declarations d at.stands at.is_there) in
          let from = declared_reached at.reached at.unit at.is_module has in
          let place : d ≡ from.0 = same_place modules find finder m from.0 d (record { home = m; name = declared_name at.stands }) at.unit at.stands from.1 at.is_module at.is_there refl in
          record {
            is_held = subst (λ k. IsSome (held m k)) (sym place) (whole m from.0 from.2);
            home = (m, at.unit);
            is_found = here;
            stands = at.stands;
            is_there = at.is_there;
            name = at.name;
            occurs = at.occurs;
            why = ⊎_elim
                (λ l. subst (λ t. RefusedFor t r) (sym (missing_told (m, at.unit) here at.name l.0)) l.1)
                (λ p. subst (λ t. RefusedFor t r) (sym (private_told (m, at.unit) here at.name at.target p.0)) p.1)
                at.why;
          }

      pub first_refused : HoldsReached find root keep held → HoldsAllReached find root keep held → (r : LoadError) → IsFirstMissing find held r → IsFirstRefused modules root keep r
      first_refused sound whole r first = record {
        home = first.home;
        declaration = first.declaration;
        occurrence = first.occurrence;
        refused = missing_refused sound first.home first.declaration first.occurrence r first.refused;
        first = λ m d o s at before. first.first m d o s (refused_missing whole m d o s at) before;
      }

      pub none_refused : HoldsAllReached find root keep held → NoneMissing find held → NoneRefused modules root keep
      none_refused whole none m d o r at = none m d o r (refused_missing whole m d o r at)

-- where it is not noted that something is missing, nothing is
handled_present : (s : Stage) (o : Outcome) (r : LoadError) → s.is_missing ≡ false → Handled s o → RefusedFor o r → ⊥
handled_present s (symbol_at m k) r sure h why = why
handled_present s (unloaded t) r sure h why = why
handled_present s (missing t) r sure h why = let both : false ≡ true = sym sure ∙ h in absurd (cc)
handled_present s (private t) r sure h why = let both : false ≡ true = sym sure ∙ h in absurd (cc)
handled_present s free r sure h why = why

pub none_missing : (find : Loaded) (s : Stage) → s.is_missing ≡ false → AllFollowed find s → NoneMissing find s.held
none_missing find s sure all m d o r at =
    handled_present s (outcome find at.home at.name) r sure
    (all m d at.is_held at.home at.stands at.name at.is_found at.is_there (to_contains (occurrences at.stands) o at.name at.occurs)) at.why

-- ---- the kept names of the root

-- a name that is found in a loaded module is declared there, and the other way round
name_declared : (h : Path × UnitTree) (s : Symbol) (m : Path) (place : ℕ) → item_at s (Some h) ≡ symbol_at m place → Declares h.1 s.name
name_declared h s m place e = at (known h.1 s.name) refl e
  where
    at : (o : Option Known) → known h.1 s.name ≡ o → item_in h.0 s o ≡ symbol_at m place → Declares h.1 s.name
    at None is f = absurd (cc)
    at (Some (declared j)) is f = has_declared h.1 s.name j is
    at (Some (imported t)) is f = absurd (cc)
    at (Some (bare y)) is f = absurd (cc)

pub first_unkept : (modules : Modules) (find : Loaded) → IsFinder modules find → (sources : Sources) (root : Path) (keep : List Name) (max : ℕ) (h : Path × UnitTree) (x : Name) → find root ≡ Some h
    → IsFirstUndeclared find root keep x → IsFirstUnkept sources root keep max h.1 x
first_unkept modules find finder sources root keep max h x here first = record {
  before = first.before;
  behind = first.behind;
  whole = first.whole;
  declared = λ y c.
      let d = first.declared y c in
      name_declared h (record { home = root; name = y }) d.0 d.1 (ap (item_at (record { home = root; name = y })) (sym here) ∙ d.2);
  undeclared = λ has.
      let k = declared_known h.1 x (finder.fresh root h here) has in
      first.undeclared h.0 k.0 (ap (item_at (record { home = root; name = x })) here ∙ ap (item_in h.0 (record { home = root; name = x })) k.1);
}

-- ---- what is held after a round

-- what occurs in what is held is held, so all that is reached is
pub holds_all : (find : Loaded) (root : Path) (keep : List Name) (s : Stage) → KeepsAll find root keep s.held → AllFollowed find s → HoldsAllReached find root keep s.held
holds_all find root keep s keeps all m place r = at r
  where
    at : {m : Path} {place : ℕ} → ReachedAt find root keep m place → IsSome (s.held m place)
    at (kept {x} {m} {place} c e) =
        let k = keeps x c in
        let same : symbol_at k.0 k.1 ≡ symbol_at m place = sym k.2 ∙ e in
        subst (Handled s) same k.3
    at (onto {m} {n} {k} {place} {h} {d} {x} r is there c e) =
        subst (Handled s) e (all m k (at r) h d x is there c)

-- where nothing is asked for, what occurs is settled
handled_settled : (s : Stage) (o : Outcome) → s.is_missing ≡ false → ((t : Symbol) → s.asks t ≡ false) → Handled s o → Settled s.held o
handled_settled s (symbol_at m k) sure none h = h
handled_settled s (unloaded t) sure none h = let both : false ≡ true = sym (none t) ∙ h in absurd (cc)
handled_settled s (missing t) sure none h = let both : false ≡ true = sym sure ∙ h in absurd (cc)
handled_settled s (private t) sure none h = let both : false ≡ true = sym sure ∙ h in absurd (cc)
handled_settled s free sure none h = h

asks_nothing : (asked : AskedNames) → asked.entries ≡ [] → (t : Symbol) → asks asked t ≡ false
asks_nothing asked none t = ap (λ es. name_asked (lookup (λ l. is_eq (slice_cmp nat_cmp t.home (string_bytes l))) es) t.name) none

pub settled : (ms : LoadedModules) (root : Path) (keep : List Name) (held : HeldNames) (asked : AskedNames) → IsClosed ms root keep held asked → asked.entries ≡ [] → IsSettled (loaded ms) (held_at held)
settled ms root keep held asked closed none m k h d x some is there c =
    handled_settled (stage held (asks asked) false []) (outcome (loaded ms) h x) refl (asks_nothing asked none) (closed.followed m k some h d x is there c)

-- ---- the names of what is held

-- a module of the table is among the modules
entry_module : (ms : LoadedModules) (p : Path) (m : Module) → get_by_text ms p ≡ Some m → Contains (modules_of ms) (m.path, unit_tree m.unit)
entry_module ms p m is =
    let e = place_from_lookup (λ l. is_eq (slice_cmp nat_cmp p (string_bytes l))) ms.entries m is in
    to_contains (modules_of ms) e.0 (m.path, unit_tree m.unit) (get_map (λ e. (e.1.path, unit_tree e.1.unit)) ms.entries e.0 (e.1, m) e.2)

pub names_held : (ms : LoadedModules) (root : Path) (held : Holding) → IsKeyed ms → IsFinder (modules_of ms) (loaded ms) → AreNamed ms root held → NamesHeld (modules_of ms) root held
names_held ms root held keyed finder named m place s y at is = printed (bytes_eq m root) refl n.named
  where
    n : IsNamedAt ms root m place y
    n = named m place y is

    here : loaded ms m ≡ Some (home_of n.home)
    here = ap (option_map home_of) n.found

    declaration : IsDeclaration (modules_of ms) s n.declaration
    declaration = stands_there (modules_of ms) (loaded ms) finder m place s (home_of n.home) n.declaration at here n.stands

    printed : (b : Bool) → bytes_eq m root ≡ b → y ≡ (if b then declared_name n.declaration else mangled n.home.path (declared_name n.declaration)) → IsPrinted (modules_of ms) root s y
    printed true same e =
        subst (λ t. IsPrinted (modules_of ms) root t y) (sym (same_symbol s root y (at.home ∙ same_bytes m root same) (sym declaration.name ∙ sym e))) stays
    printed false other e =
        subst (IsPrinted (modules_of ms) root s) (ap (mangled n.home.path) (sym declaration.name) ∙ sym e)
        (is_mangled (λ is_root. let no : bytes_eq m root ≡ true = subst (λ t. bytes_eq m t ≡ true) (sym at.home ∙ is_root) (bytes_same m) in let both : false ≡ true = sym other ∙ no in absurd (cc))
        (entry_module ms m n.home n.found) (sym n.home.printed ∙ keyed m n.home n.found ∙ sym at.home))

pub is_resolved : (ms : LoadedModules) (root : Path) (keep : List Name) (held : HeldNames) (asked : AskedNames) → IsKeyed ms → IsFinder (modules_of ms) (loaded ms) → IsRooted (modules_of ms) root keep
    → IsClosed ms root keep held asked → asked.entries ≡ [] → IsResolved ms root keep held
is_resolved ms root keep held asked keyed finder rooted closed none = record {
  keyed = keyed;
  rooted = rooted;
  named = names_held ms root (held_at held) keyed finder closed.named;
  kept = closed.kept;
  sound = closed.sound;
  settled = settled ms root keep held asked closed none;
}

-- ---- the modules of the next round

sorted_nothing : {K : Type 0} (R : K → K → Ordering) → IsStrictlySortedBy R []
unfolding IsStrictlySortedBy
sorted_nothing R = tt

abbrev pub asked_paths : AskedNames → List Path
asked_paths asked = map (λ e. string_bytes e.0) asked.entries

paths_ascend : (es : List (String Global × AskedModule)) → IsStrictlySortedBy string_cmp (map (λ e. e.0) es) → IsAscending (map (λ e. string_bytes e.0) es)
paths_ascend [] s = no_path
paths_ascend (e ∷ []) s = one_path
paths_ascend (e ∷ f ∷ es) s = one_before (sorted_head string_cmp e.0 (f.0 ∷ map (λ x. x.0) es) s).0 (paths_ascend (f ∷ es) (sorted_tail string_cmp e.0 (f.0 ∷ map (λ x. x.0) es) s))

-- a name is asked for only where its module is
path_asked : (asked : AskedNames) (t : Symbol) → asks asked t ≡ true → Contains (asked_paths asked) t.home
path_asked asked t e = at (get_by_text asked t.home) refl e
  where
    at : (o : Option AskedModule) → get_by_text asked t.home ≡ o → name_asked o t.name ≡ true → Contains (asked_paths asked) t.home
    at None is f = absurd (cc)
    at (Some a) is f =
        let p = place_from_lookup (λ l. is_eq (slice_cmp nat_cmp t.home (string_bytes l))) asked.entries a is in
        let same : t.home ≡ string_bytes p.1 = same_bytes t.home (string_bytes p.1) (sym (is_eq-slice_cmp t.home (string_bytes p.1)) ∙ p.3) in
        subst (Contains (asked_paths asked)) (sym same) (to_contains (asked_paths asked) p.0 (string_bytes p.1) (get_map (λ e. string_bytes e.0) asked.entries p.0 (p.1, a) p.2))

module _ (modules : Modules) (ms : LoadedModules) (finder : IsFinder modules (loaded ms)) (root : Path) (keep : List Name) (held : HeldNames) (asked : AskedNames) (closed : IsClosed ms root keep held asked) where
  -- what is asked for at a place is asked for
  asked_there : (s : Symbol) → IsAskedAt (loaded ms) root keep s → IsAsked modules root keep s.home
  asked_there s at =
      let from = reached_there modules (loaded ms) finder root keep at.reached in
      let home : at.there.0 ≡ at.home = (finder.found at.home at.there at.found).1 in
      let told = tells modules (loaded ms) finder at.there (ap (loaded ms) home ∙ at.found) at.name in
      record {
        from = from.0;
        declaration = at.declaration;
        name = at.name;
        target = s;
        reached = from.2;
        declares = stands_there modules (loaded ms) finder at.home at.place from.0 at.there at.declaration from.1 at.found at.stands;
        occurs = at.occurs;
        unloaded = subst (λ q. IsUnloaded modules q at.name s) (home ∙ sym from.1.home) (subst (Tells modules at.there.0 at.name) at.is_unloaded told);
        home = refl;
      }

  there_asked : (p : Path) → IsAsked modules root keep p → Contains (asked_paths asked) p
  there_asked p is =
      let u = is.declares in
      let i = from_contains u.unit.declarations is.declaration u.stands in
      let here : loaded ms is.from.home ≡ Some (is.from.home, u.unit) = finder.finds is.from.home u.unit u.is_module in
      let has : Declares u.unit is.from.name = to_contains (map declared_name u.unit.declarations) i.0 is.from.name (get_map declared_name u.unit.declarations i.0 is.declaration i.1 ∙ ap (λ y. Some y) u.name) in
      let at = declared_reached modules (loaded ms) finder root keep is.reached u.unit u.is_module has in
      let place : i.0 ≡ at.0 = same_place modules (loaded ms) finder is.from.home at.0 i.0 is.from u.unit is.declaration at.1 u.is_module i.1 u.name in
      let some = holds_all (loaded ms) root keep (stage held (asks asked) false []) closed.kept closed.followed is.from.home at.0 at.2 in
      let handled = closed.followed is.from.home at.0 some (is.from.home, u.unit) is.declaration is.name here (subst (λ k. slice_get u.unit.declarations k ≡ Some is.declaration) place i.1) is.occurs in
      let asks_it : asks asked is.target ≡ true = subst (Handled (stage held (asks asked) false [])) (unloaded_told modules (loaded ms) finder (is.from.home, u.unit) here is.name is.target is.unloaded) handled in
      subst (Contains (asked_paths asked)) is.home (path_asked asked is.target asks_it)

  pub next_round : IsOrdered string_cmp asked → IsNextRound modules root keep (asked_paths asked)
  next_round ordered = record {
    ascending = paths_ascend asked.entries ordered;
    asked = λ p. (λ c. among p c, there_asked p);
  }
    where
      among : (p : Path) → Contains (asked_paths asked) p → IsAsked modules root keep p
      among p c =
          let i = from_contains (asked_paths asked) p c in
          let e = map_get (λ (e : String Global × AskedModule). string_bytes e.0) asked.entries i.0 p i.1 in
          let found : get_by_text asked p ≡ Some e.0.1 = ap (get_by_text asked) (sym e.2) ∙ btree_map_get_place string_cmp_total asked i.0 e.0.0 e.0.1 ordered e.1 in
          let named = closed.by_name p e.0.1 found in
          asked_there (record { home = p; name = named.1.0 }) (closed.asked_at (record { home = p; name = named.1.0 }) (ap (λ o. name_asked o named.1.0) found ∙ named.1.1))

  pub nothing_asked : asked.entries ≡ [] → IsNextRound modules root keep []
  nothing_asked none =
      subst (λ (es : List (String Global × AskedModule)). IsNextRound modules root keep (map (λ e. string_bytes e.0) es)) none
      (next_round (subst (λ (es : List (String Global × AskedModule)). IsStrictlySortedBy string_cmp (map (λ e. e.0) es)) (sym none) (sorted_nothing string_cmp)))

  -- nothing is refused in a round that closed
  pub closed_refuses_none : NoneRefused modules root keep
  closed_refuses_none =
      none_refused modules (loaded ms) finder root keep (held_at held)
      (holds_all (loaded ms) root keep (stage held (asks asked) false []) closed.kept closed.followed)
      (none_missing (loaded ms) (stage held (asks asked) false []) refl closed.followed)

-- what a closing is refused for is the first that is refused
pub stopped_refused : (modules : Modules) (ms : LoadedModules) → IsFinder modules (loaded ms) → (root : Path) (keep : List Name) (held : HeldNames) (r : LoadError) → IsStopped ms root keep held r
    → IsFirstRefused modules root keep r
stopped_refused modules ms finder root keep held r stopped = first_refused modules (loaded ms) finder root keep (held_at held) stopped.sound stopped.whole r stopped.first
