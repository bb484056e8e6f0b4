-- From the tables of each round to what loading comes to.
use Rattle.std.proofs.Common.{◌≡◌, refl, sym, ap, ◌∙◌, subst, ℕ, suc, ◌+◌, ◌≤◌, ⊎_elim, List, [], ◌∷◌, ◌++◌, map, length, Option, Some, None, Ok, Err, arith, ◌≢◌}
use Rattle.std.specs.Prelude.{string_bytes, slice_get}
use Rattle.std.specs.List.Sorted.{IsStrictlySortedBy}
use Rattle.std.specs.Option.{option_map}
use Rattle.std.specs.String.{string_cmp, string_cmp_total}
use Rattle.std.specs.Ordering.{nat_cmp, is_eq}
use Rattle.std.specs.Cmp.Lexicographic.{slice_cmp}
use Rattle.std.specs.Map.{lookup}
use Rattle.std.specs.List.{Contains}
use Rattle.std.specs.BTreeMap.{get_by_text, IsOrdered}
use Rattle.std.specs.declared.string.String.{String}
use Rattle.std.specs.declared.alloc.Global.{Global}
use Rattle.std.proofs.lemmas.List.{length-append, length-map}
use Rattle.std.proofs.lemmas.Map.Entries.{btree_map_get_place}
use Rattle.wgsl_path.specs.declared.path.ModulePath.{ModulePath}
use Rattle.wgsl_path.specs.Paths.{path_text}
use Rattle.core_syntax.specs.Tree.{UnitTree}
use Rattle.core_syntax.specs.View.{unit_tree}
use Rattle.core_link_spec.specs.Occurrences.{Name}
use Rattle.core_link_spec.specs.Modules.{Path, Symbol, Modules, IsModule, Declares}
use Rattle.core_link_spec.specs.Named.{HasImportOf, AreNamedByImports}
use Rattle.core_link_spec.specs.Rounds.{Sources, LoadError, too_many_modules, missing_decl, Loads, all_loaded, one_too_many, is_not_found, is_faulty, has_a_name_twice, loaded_then_refused, loaded as one_loaded, IsNextRound, NoneRefused, IsFirstRefused, LoadsRounds, an_occurrence_refused, a_module_refused, a_round, IsFirstUnkept, IsLoadingResult, root_refused, kept_name_missing, goes_on}
use Rattle.core_link_spec.specs.Rounds as rounds
use Rattle.core_scopes.specs.declared.error.ImportError.{ImportError}
use Rattle.core_scopes.specs.declared.module.Module.{Module}
use Rattle.core_scopes.specs.Meanings.{Known, declared, imported, bare, known, names, entries, first_again}
use Rattle.core_scopes.specs.Outcomes.{symbol_at, unloaded, Loaded, item_in, item_at, meant_as, loaded, home_of}
use Rattle.core_scopes.specs.Tells.{IsFinder}
use Rattle.core_scopes.proofs.TellLemmas.{has_declared}
use Rattle.core_reach.specs.declared.linking.AskedModule.{AskedModule}
use Rattle.core_reach.specs.declared.rounds.Reached.{Reached}
use Rattle.core_reach.specs.Missing.{refusal_of}
use Rattle.core_reach.specs.Reach.{KeepsAll, IsRooted}
use Rattle.core_reach.specs.Closing.{HeldNames, name_among, held_at}
use Rattle.core_reach.specs.Resolved.{LoadedModules, modules_of, IsResolved}
use Rattle.core_reach.specs.Stages.{AskedNames, name_asked}
use Rattle.core_reach.specs.Closed.{HoldsNothing, IsNamedInTable, AreAskedByImport, AreNamedInTable, IsLoadedOn, IsClosed, IsFirstUndeclared, IsStopped, RefusesClosing, RefusesRoot}
use Rattle.core_reach.specs.Answers.{AreLoadedTables, Refuses}
use Rattle.core_reach.specs.Loading.{AreTabled, paths_of, AreSought, IsOldOrAsked, RefusesLoading, IsLoadedOne, AreAllLoaded, IsRoundEnd}
use Rattle.core_reach.proofs.RefusedLemmas as refused
use Rattle.core_reach.proofs.RefusedLemmas.{closed_refuses_none, stopped_refused}
use Rattle.std.proofs.lemmas.List.Elements.{Contains-append_left}
use Rattle.core_reach.proofs.LoadLemmas.{AskedEntry, texts_of, one_in, path_and_unit, found_listed, listed_found, old_or_new, one_tabled, one_then}

-- ---- the modules of a table, by their paths

found_one : (o : Option Module) (m : Path × UnitTree) → option_map home_of o ≡ Some m → (v : Module) × (o ≡ Some v) × (home_of v ≡ m)
found_one None m e = absurd (cc)
found_one (Some v) m e = let same : home_of v ≡ m = cc in (v, refl, same)

found_none : (o : Option Module) → option_map home_of o ≡ None → o ≡ None
found_none None e = refl
found_none (Some v) e = absurd (cc)

pub tabled_finder : (ms : LoadedModules) (modules : Modules) → AreTabled ms modules → IsFinder modules (loaded ms)
tabled_finder ms modules t = record {
  found = λ p m e.
      let f = found_one (get_by_text ms p) m e in
      let home : string_bytes f.0.printed_path ≡ p = t.keyed p f.0 f.1 in (
        record {
          path = f.0.path;
          stands = subst (λ (h : Path × UnitTree). Contains modules (f.0.path, h.1)) f.2 ((t.same (path_and_unit f.0)).1 (found_listed ms p f.0 f.1));
          printed = sym f.0.printed ∙ home;
        },
        ap (λ (h : Path × UnitTree). h.0) (sym f.2) ∙ home,
      );
  finds = λ p u is.
      let f = listed_found ms t.ordered (is.path, u) ((t.same (is.path, u)).0 is.stands) in
      let same_path : f.1.path ≡ is.path = ap (λ (x : ModulePath × UnitTree). x.0) f.3 in
      let same_unit : unit_tree f.1.unit ≡ u = ap (λ (x : ModulePath × UnitTree). x.1) f.3 in
      let home : string_bytes f.1.printed_path ≡ p = f.1.printed ∙ ap path_text same_path ∙ is.printed in
      let key : f.0 ≡ p = sym (t.keyed f.0 f.1 f.2) ∙ home in
      subst (λ q. loaded ms q ≡ Some (p, u)) key (ap (option_map home_of) f.2 ∙ (λ k. Some (home k, same_unit k)));
  fresh = λ p m e.
      let f = found_one (get_by_text ms p) m e in
      subst (λ (h : Path × UnitTree). first_again [] (names (entries h.1)) ≡ None) f.2 f.0.fresh;
}

-- ---- what is asked for is not loaded

module _ (find : Loaded) where
  in_loaded : (m : Path) (u v : Symbol) (o : Option Known) → item_in m u o ≡ unloaded v → ⊥
  in_loaded m u v None e = absurd (cc)
  in_loaded m u v (Some (declared j)) e = absurd (cc)
  in_loaded m u v (Some (imported w)) e = absurd (cc)
  in_loaded m u v (Some (bare w)) e = absurd (cc)

  item_unloaded : (t s : Symbol) (o : Option (Path × UnitTree)) → find t.home ≡ o → item_at t o ≡ unloaded s → find s.home ≡ None
  item_unloaded t s None is e = let same : t ≡ s = cc in subst (λ (x : Symbol). find x.home ≡ None) same is
  item_unloaded t s (Some h) is e = absurd (in_loaded h.0 t s (known h.1 t.name) e)

  meant_unloaded : (m : Path) (s : Symbol) (o : Option Known) → meant_as find m o ≡ unloaded s → find s.home ≡ None
  meant_unloaded m s None e = absurd (cc)
  meant_unloaded m s (Some (declared j)) e = absurd (cc)
  meant_unloaded m s (Some (imported t)) e = item_unloaded t.1 s (find t.1.home) refl e
  meant_unloaded m s (Some (bare y)) e = absurd (cc)

pub all_sought : (ms : LoadedModules) (root : Path) (keep : List Name) (held : HeldNames) (asked : AskedNames) → IsClosed ms root keep held asked → AreSought ms asked
all_sought ms root keep held asked c p a is =
    let n = c.by_name p a is in
    let s : Symbol = record { home = p; name = n.1.0 } in
    let at = c.asked_at s (ap (λ o. name_asked o n.1.0) is ∙ n.1.1) in
    (n.0, found_none (get_by_text ms p) (meant_unloaded (loaded ms) at.there.0 s (known at.there.1 at.name) at.is_unloaded))

-- ---- the root declares what is kept

declared_there : (m n : Path) (s : Symbol) (k : ℕ) (o : Option Known) → item_in m s o ≡ symbol_at n k → (j : ℕ) × (o ≡ Some (declared j))
declared_there m n s k None e = absurd (cc)
declared_there m n s k (Some (declared j)) e = (j, refl)
declared_there m n s k (Some (imported t)) e = absurd (cc)
declared_there m n s k (Some (bare y)) e = absurd (cc)

pub declares_kept : (find : Loaded) (root : Path) (keep : List Name) (held : HeldNames) (u : UnitTree) → find root ≡ Some (root, u) → KeepsAll find root keep (held_at held)
    → (x : Name) → Contains keep x → Declares u x
declares_kept find root keep held u here kept x c =
    let s : Symbol = record { home = root; name = x } in
    let k = kept x c in
    let d = declared_there root k.0 s k.1 (known u x) (ap (item_at s) (sym here) ∙ k.2) in
    has_declared u x d.0 d.1

no_modules : IsStrictlySortedBy string_cmp (map (λ (x : String Global × Module). x.0) [])
unfolding IsStrictlySortedBy
no_modules = tt

pub no_entries : {X : Type 0} (xs : List X) → length xs ≡ 0 → xs ≡ []
no_entries [] e = refl
no_entries (x ∷ xs) e = absurd (omega arith)

self_tabled : (ms : LoadedModules) (modules : Modules) → AreTabled ms modules → AreTabled ms (modules_of ms)
self_tabled ms modules t = record { keyed = t.keyed; ordered = t.ordered; same = λ x. (λ c. c, λ c. c); many = length-map ms.entries (λ (e : String Global × Module). path_and_unit e.1) }

-- ---- from places to names

module _ (ms : LoadedModules) (modules : Modules) (t : AreTabled ms modules) (root : Path) (keep : List Name) where
  finder : IsFinder modules (loaded ms)
  finder = tabled_finder ms modules t

  none_refused : (held : HeldNames) (asked : AskedNames) → IsClosed ms root keep held asked → NoneRefused modules root keep
  none_refused held asked closed = closed_refuses_none modules ms finder root keep held asked closed

  next_round : (held : HeldNames) (asked : AskedNames) → IsClosed ms root keep held asked → IsOrdered string_cmp asked → IsNextRound modules root keep (paths_of asked)
  next_round held asked closed ordered = refused.next_round modules ms finder root keep held asked closed ordered

  pub nothing_asked : (held : HeldNames) (asked : AskedNames) → IsClosed ms root keep held asked → asked.entries ≡ [] → IsNextRound modules root keep []
  nothing_asked held asked closed empty = refused.nothing_asked modules ms finder root keep held asked closed empty

  first_refused : (held : HeldNames) (r : LoadError) → IsStopped ms root keep held r → IsFirstRefused modules root keep r
  first_refused held r stopped = stopped_refused modules ms finder root keep held r stopped

  module _ (u : UnitTree) (here : IsModule modules root u) where
    found_root : loaded ms root ≡ Some (root, u)
    found_root = finder.finds root u here

    first_unkept : (sources : Sources) (max : ℕ) (x : Name) → IsFirstUndeclared (loaded ms) root keep x → IsFirstUnkept sources root keep max u x
    first_unkept sources max x first = refused.first_unkept modules (loaded ms) finder sources root keep max (root, u) x found_root first

    rooted : (held : HeldNames) → KeepsAll (loaded ms) root keep (held_at held) → IsRooted (modules_of ms) root keep
    rooted held kept = (
      u,
      record { path = here.path; stands = (t.same (here.path, u)).0 here.stands; printed = here.printed },
      declares_kept (loaded ms) root keep held u found_root kept,
    )

    pub is_resolved : (held : HeldNames) (asked : AskedNames) → IsClosed ms root keep held asked → asked.entries ≡ [] → IsResolved ms root keep held
    is_resolved held asked closed empty =
        refused.is_resolved ms root keep held asked t.keyed (tabled_finder ms (modules_of ms) (self_tabled ms modules t)) (rooted held closed.kept) closed empty

-- ---- the paths under which modules stand

named_grows : (old : LoadedModules) (asked : AskedNames) (new : LoadedModules) (path : ModulePath) → IsLoadedOn old asked new → IsNamedInTable old path → IsNamedInTable new path
named_grows old asked new path on n = record { home = n.home; one = n.one; stands = on.stay n.home n.one n.stands; has = n.has }

-- what was asked for by an import is named by it
pub named_more : (old : LoadedModules) (asked : AskedNames) (new : LoadedModules) (root : Path) → IsLoadedOn old asked new
    → ((p : Path) (m : Module) → get_by_text new p ≡ Some m → IsOldOrAsked old asked p m) → AreAskedByImport old asked → AreNamedInTable old root → AreNamedInTable new root
named_more old asked new root on only by_import before p m here other = ⊎_elim
    (λ old_one. named_grows old asked new m.path on (before p m old_one other))
    (λ came. subst (IsNamedInTable new) (sym came.2) (named_grows old asked new came.0.path on (by_import p came.0 came.1)))
    (only p m here)

-- the modules of a table stand in the list under the same paths
pub named_by_imports : (ms : LoadedModules) (modules : Modules) (root : Path) → AreTabled ms modules → AreNamedInTable ms root → AreNamedByImports modules root
named_by_imports ms modules root t named path u there other =
    let f = listed_found ms t.ordered (path, u) ((t.same (path, u)).0 there) in
    let same : f.1.path ≡ path = ap (λ (x : ModulePath × UnitTree). x.0) f.3 in
    let key : path_text path ≡ f.0 = ap path_text (sym same) ∙ sym f.1.printed ∙ t.keyed f.0 f.1 f.2 in
    let n = named f.0 f.1 f.2 (λ is. other (key ∙ is)) in
    record {
      home = n.one.path;
      unit = unit_tree n.one.unit;
      loaded = (t.same (path_and_unit n.one)).1 (found_listed ms n.home n.one n.stands);
      has = subst (HasImportOf (unit_tree n.one.unit)) same n.has;
    }

-- ---- the rounds

pub all_of_them : (sources : Sources) (max n : ℕ) (ps : List Path) (more : Modules) → Loads sources max n ps (Ok more) → length more ≡ length ps
all_of_them sources max n ps more (all_loaded) = refl
all_of_them sources max n ps more (one_loaded {n = k} {ps = qs} {modules = m} less s d is l) = ap suc (all_of_them sources max (k + 1) qs m l)

module _ (sources : Sources) (max : ℕ) (root : Path) (keep : List Name) (r : Reached) (asked : AskedNames) (n : ℕ) (e : IsRoundEnd sources max root keep r asked n) where
  pub none : NoneRefused e.modules root keep
  none = none_refused r.modules e.modules e.tabled root keep r.held asked e.closed

  unfoldable pub all_ended : asked.entries ≡ [] → AreLoadedTables sources root keep max r.modules r.held
  all_ended empty = record {
    resolved = is_resolved r.modules e.modules e.tabled root keep e.unit e.rooted r.held asked e.closed empty;
    modules = e.modules;
    loaded = e.goes (Ok e.modules) (rounds.nothing_asked none (nothing_asked r.modules e.modules e.tabled root keep r.held asked e.closed empty));
    same = e.tabled.same;
    named = named_by_imports r.modules e.modules root e.tabled e.named;
  }

  pub sought : AreSought r.modules asked
  sought = all_sought r.modules root keep r.held asked e.closed

  module _ (ordered : IsOrdered string_cmp asked) where
    pub next : IsNextRound e.modules root keep (paths_of asked)
    next = next_round r.modules e.modules e.tabled root keep r.held asked e.closed ordered

    pub loading_refused : (o : Option LoadError) → RefusesLoading sources max (length e.modules) (paths_of asked) o → Refuses sources root keep max o
    loading_refused None l = tt
    loading_refused (Some why) l = e.goes (Err why) (a_module_refused none next l)

    pub too_many : (key : String Global) (a : AskedModule) (rest : List AskedEntry) (path : ModulePath) → max ≤ n → asked.entries ≡ (key, a) ∷ rest → path ≡ a.path
        → IsLoadingResult sources root keep max (Err (too_many_modules (path_text path)))
    too_many key a rest path full is same =
        let here : get_by_text asked (string_bytes key) ≡ Some a = btree_map_get_place string_cmp_total asked 0 key a ordered (λ k. at (is k)) in
        let text : path_text path ≡ string_bytes key = ap path_text same ∙ (sought (string_bytes key) a here).0 in
        let most : max ≤ length e.modules = omega (arith, full, e.many) in
        subst (λ t. IsLoadingResult sources root keep max (Err (too_many_modules t))) (sym text)
        (loading_refused (Some (too_many_modules (string_bytes key))) (subst (λ es. Loads sources max (length e.modules) (texts_of es) (Err (too_many_modules (string_bytes key)))) (sym is) (one_too_many most)))
      where
        at : List AskedEntry → Option AskedEntry
        at es = slice_get es 0

    module _ (some : asked.entries ≢ []) (new : LoadedModules) (l : AreAllLoaded sources max r.modules e.modules asked new) where
      pub not_empty : (es : List AskedEntry) → es ≢ [] → texts_of es ≢ []
      not_empty [] other is = other refl
      not_empty (x ∷ es) other is = absurd (cc)

      pub one_at_least : (es : List AskedEntry) → es ≢ [] → 1 ≤ length (texts_of es)
      one_at_least [] other = absurd (other refl)
      one_at_least (x ∷ es) other = omega arith

      pub closing_refused : (held : HeldNames) (error : ImportError) → RefusesClosing new root keep held error → Refuses sources root keep max (refusal_of error)
      closing_refused held error why = ⊎_elim
          (λ memory. subst (Refuses sources root keep max) (ap refusal_of (sym memory)) tt)
          (λ told.
          subst (Refuses sources root keep max) (sym told.1)
          (e.goes (Err told.0)
          (a_round none next (not_empty asked.entries some) l.loads (an_occurrence_refused (first_refused new (e.modules ++ l.more) l.tabled root keep held told.0 told.2)))))
          why

      unfoldable pub one_round : (after : Reached) (more : AskedNames) → after.modules ≡ new → IsClosed new root keep after.held more → IsRoundEnd sources max root keep after more (n + 1)
      one_round after more same closed = record {
        modules = e.modules ++ l.more;
        tabled = subst (λ ms. AreTabled ms (e.modules ++ l.more)) (sym same) l.tabled;
        unit = e.unit;
        rooted = record { path = e.rooted.path; stands = Contains-append_left e.modules l.more (e.rooted.path, e.unit) e.rooted.stands; printed = e.rooted.printed };
        closed = subst (λ ms. IsClosed ms root keep after.held more) (sym same) closed;
        named = subst (λ ms. AreNamedInTable ms root) (sym same) (named_more r.modules asked new root l.on l.only e.closed.by_import e.named);
        many = omega (arith, length-append e.modules l.more, all_of_them sources max (length e.modules) (paths_of asked) l.more l.loads, one_at_least asked.entries some, e.many);
        goes = λ o g. e.goes o (a_round none next (not_empty asked.entries some) l.loads g);
      }

-- ---- the root's round

pub nothing_held : (held : HeldNames) → held.entries ≡ [] → HoldsNothing held
nothing_held held empty m place = ap (λ es. name_among (lookup (λ k. is_eq (slice_cmp nat_cmp m (string_bytes k))) es) place) empty

module _ (sources : Sources) (max : ℕ) (root : Path) (keep : List Name) where
  pub root_not_loaded : (o : Option LoadError) → ((ps : List Path) → RefusesLoading sources max 0 (root ∷ ps) o) → Refuses sources root keep max o
  root_not_loaded None l = tt
  root_not_loaded (Some r) l = root_refused (l [])

  module _ (path : ModulePath) (old new : LoadedModules) (empty : old.entries ≡ []) (l : IsLoadedOne sources max old path root new) where
    nowhere : (p : Path) → get_by_text old p ≡ None
    nowhere p = ap (lookup (λ k. is_eq (slice_cmp nat_cmp p (string_bytes k)))) empty

    pub there : Loads sources max 0 (root ∷ []) (Ok (path_and_unit l.one ∷ []))
    there = one_then sources max 0 old root new l (ap length (sym empty)) [] (Ok []) all_loaded

    listed : modules_of old ≡ []
    listed = ap (map (λ (e : String Global × Module). path_and_unit e.1)) empty

    none_tabled : AreTabled old []
    none_tabled = record {
      keyed = λ p m e. let both : None ≡ Some m = sym (nowhere p) ∙ e in absurd (cc);
      ordered = subst (λ es. IsStrictlySortedBy string_cmp (map (λ (x : String Global × Module). x.0) es)) (sym empty) no_modules;
      same = λ x. (subst (λ ms. Contains [] x → Contains ms x) (sym listed) (λ c. c), subst (λ ms. Contains ms x → Contains [] x) (sym listed) (λ c. c));
      many = ap length (sym empty);
    }

    pub tabled : AreTabled new (path_and_unit l.one ∷ [])
    tabled = one_tabled sources max old new [] root none_tabled (nowhere root) l

    pub at_root : IsModule (path_and_unit l.one ∷ []) root (unit_tree l.one.unit)
    at_root = record { path = l.one.path; stands = one_in (path_and_unit l.one); printed = l.printed }

    pub kept_there : (held : HeldNames) → KeepsAll (loaded new) root keep (held_at held) → (x : Name) → Contains keep x → Declares (unit_tree l.one.unit) x
    kept_there held kept =
        declares_kept (loaded new) root keep held (unit_tree l.one.unit) (found_root new (path_and_unit l.one ∷ []) tabled root keep (unit_tree l.one.unit) at_root) kept

    pub root_alone : AreNamedInTable new root
    root_alone p m here other = ⊎_elim
        (λ before. absurd (let both : None ≡ Some m = sym (nowhere p) ∙ before in cc))
        (λ came. absurd (other (sym came.0)))
        (old_or_new old new root l.one (nowhere root) l.stands p m here)

    unfoldable pub root_ended : (r : Reached) (asked : AskedNames) → r.modules ≡ new → IsClosed new root keep r.held asked → IsRoundEnd sources max root keep r asked 1
    root_ended r asked same closed = record {
      modules = path_and_unit l.one ∷ [];
      tabled = subst (λ ms. AreTabled ms (path_and_unit l.one ∷ [])) (sym same) tabled;
      unit = unit_tree l.one.unit;
      rooted = at_root;
      closed = subst (λ ms. IsClosed ms root keep r.held asked) (sym same) closed;
      named = subst (λ ms. AreNamedInTable ms root) (sym same) root_alone;
      many = omega arith;
      goes = λ o g. goes_on there (kept_there r.held closed.kept) g;
    }

    pub root_stopped : (held : HeldNames) (error : ImportError) → RefusesRoot new root keep held error → Refuses sources root keep max (refusal_of error)
    root_stopped held error why = ⊎_elim
        (λ closing. ⊎_elim
        (λ memory. subst (Refuses sources root keep max) (ap refusal_of (sym memory)) tt)
        (λ told.
        subst (Refuses sources root keep max) (sym told.1)
        (goes_on there (kept_there held told.2.kept)
        (an_occurrence_refused (first_refused new (path_and_unit l.one ∷ []) tabled root keep held told.0 told.2))))
        closing)
        (λ kept.
        subst (Refuses sources root keep max) (sym kept.2.1)
        (subst (λ why. IsLoadingResult sources root keep max (Err why)) (sym kept.2.2)
        (kept_name_missing there (first_unkept new (path_and_unit l.one ∷ []) tabled root keep (unit_tree l.one.unit) at_root sources max kept.0 kept.1))))
        why
