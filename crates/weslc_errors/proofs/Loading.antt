-- What loading comes to, and the error that tells it.
use Rattle.std.specs.Prelude.{◌↔◌, string_bytes}
use Rattle.std.proofs.Common.{◌≡◌, ℕ, ◌<◌, List, map, Option, Result, Ok, Err, Some, None, refl, sym, ap, ◌∙◌, subst}
use Rattle.std.specs.declared.string.String.{String}
use Rattle.std.specs.declared.alloc.Global.{Global}
use Rattle.core_syntax.specs.View.{unit_tree}
use Rattle.weslc_errors.specs.Mapped.{IsFound, AreFound, Texts, HasText, HaveTexts, HasOnly, HasDefault, nothing_told, TellsHeld}
use Rattle.wesl_resolve.specs.declared.source_map.BasicSourceMap.{BasicSourceMap}
use Rattle.wgsl_path.specs.declared.path.ModulePath.{ModulePath}
use Rattle.wgsl_path.specs.Paths.{path_text}
use Rattle.wgsl_token.specs.declared.fault.error.Error.{Error}
use Rattle.core_syntax.specs.Tree.{UnitTree as Module}
use Rattle.wesl_resolve.specs.Found.{unit_of, not_found, faulty, unsupported, TellsUnit, SameAnswers}
use Rattle.wesl_resolve.specs.declared.error.ResolveError.{ResolveError}
use Rattle.wesl_resolve.specs.declared.error.ResolveError.TheVariants as resolve
use Rattle.core_link_spec.specs.Occurrences.{Name}
use Rattle.core_link_spec.specs.Modules.{Path, Modules, IsModule}
use Rattle.core_link_spec.specs.Rounds.{Sources, LoadError, module_not_found, syntax, module_unsupported, Loads, all_loaded, one_too_many, is_not_found, is_faulty, is_unsupported, has_a_name_twice, loaded_then_refused, loaded, LoadsRounds, an_occurrence_refused, nothing_asked, a_module_refused, a_round, IsLoadingResult, root_refused, kept_name_missing, goes_on}
use Rattle.core_link_spec.specs.Asks.{AsksAmong, asks_first, asks_next, AsksFrom, in_this_round, in_a_later_round, Asks, for_the_root, onward}
use Rattle.core_link_spec.specs.Kept.{kept_names}
use Rattle.core_link_spec.specs.Linked.{IsLinked}
use Rattle.core_link_spec.specs.Loaded.{IsClashFree}
use Rattle.core_link_spec.specs.Clashing.{IsFirstClash}
use Rattle.core_link_spec.specs.Same.{SameModules}
use Rattle.core_scopes.specs.declared.module.Module.{Module as Loaded}
use Rattle.core_scopes.proofs.ScopeLemmas.{map_get}
use Rattle.core_scopes.specs.declared.error.ImportError.{ImportError}
use Rattle.core_scopes.specs.declared.error.ImportError.TheVariants as import
use Rattle.core_laws.proofs.Loading.{loaded_modules, found_modules}
use Rattle.core_laws.specs.Headline.{IsLinkedFrom}
use Rattle.core_laws.proofs.Same.{same_turned, clash_free_in_any_order, linked_in_any_order, first_clash_in_any_order}
use Rattle.core_reach.specs.Missing.{refusal_of}
use Rattle.core_reach.specs.Answers.{Refuses}
use Rattle.core_reach.specs.Resolved.{modules_of, IsResolved}
use Rattle.core_link.specs.declared.rounds.Resolutions.{Resolutions}
use Rattle.core_link.specs.Answers.{Resolves}
use Rattle.weslc_errors.specs.Told.{of_resolving, of_loading}
use Rattle.weslc_errors.specs.Answers.{AreLoadedFrom, IsRefusedLoading, of_the_root, behind_the_root, IsFirstClashFrom, RefusesLinking, AreTablesOf, IsMapped, TellsTables, IsToldFrom}
use Rattle.wesl_resolve.specs.SourceMaps.{decl_at}
use Rattle.core_link.specs.Recording.{AreTold}
use Rattle.weslc_errors.proofs.Recorded.{held_told}
use Rattle.wgsl_base.proofs.Members.{to_contains, from_contains, get_map}

abbrev Entry : Type 0
Entry = String Global × Loaded

abbrev path_and_unit : Entry → ModulePath × Module
path_and_unit e = (e.1.path, unit_tree e.1.unit)

-- ---- what is found is the same: loading comes to the same

module _ (found other : Sources) (same : SameAnswers found other) (max : ℕ) where
  pub loads_moves : {n : ℕ} {ps : List Path} {o : Result Modules LoadError} → Loads found max n ps o → Loads other max n ps o
  loads_moves all_loaded = all_loaded
  loads_moves (one_too_many m) = one_too_many m
  loads_moves (is_not_found {p = p} m f) = is_not_found m ((same p not_found).0 f)
  loads_moves (is_faulty {p = p} {e = e} m f) = is_faulty m ((same p (faulty e)).0 f)
  loads_moves (is_unsupported {p = p} m f) = is_unsupported m ((same p unsupported).0 f)
  loads_moves (has_a_name_twice {p = p} {u = u} m f again) = has_a_name_twice m ((same p (unit_of u)).0 f) again
  loads_moves (loaded_then_refused {p = p} {u = u} m f d more) = loaded_then_refused m ((same p (unit_of u)).0 f) d (loads_moves more)
  loads_moves (loaded {p = p} {u = u} m f d t more) = loaded m ((same p (unit_of u)).0 f) d t (loads_moves more)

  module _ (root : Path) (keep : List Name) where
    goes_moves : {modules : Modules} {o : Result Modules LoadError} → LoadsRounds found root keep max modules o → LoadsRounds other root keep max modules o
    goes_moves (an_occurrence_refused r) = an_occurrence_refused r
    goes_moves (nothing_asked none next) = nothing_asked none next
    goes_moves (a_module_refused none next l) = a_module_refused none next (loads_moves l)
    goes_moves (a_round none next some l more) = a_round none next some (loads_moves l) (goes_moves more)

    pub comes_moves : {o : Result Modules LoadError} → IsLoadingResult found root keep max o → IsLoadingResult other root keep max o
    comes_moves (root_refused l) = root_refused (loads_moves l)
    comes_moves (kept_name_missing l u) = kept_name_missing (loads_moves l) (record { before = u.before; behind = u.behind; whole = u.whole; declared = u.declared; undeclared = u.undeclared })
    comes_moves (goes_on l k g) = goes_on (loads_moves l) k (goes_moves g)

module _ (found other : Sources) (same : SameAnswers found other) (max : ℕ) where
  among_moves : {n : ℕ} {ps : List Path} {p : Path} → AsksAmong found max n ps p → AsksAmong other max n ps p
  among_moves (asks_first m) = asks_first m
  among_moves (asks_next {p = p} {u = u} m f d more) = asks_next m ((same p (unit_of u)).0 f) d (among_moves more)

  module _ (root : Path) (keep : List Name) where
    from_moves : {modules : Modules} {p : Path} → AsksFrom found root keep max modules p → AsksFrom other root keep max modules p
    from_moves (in_this_round none next a) = in_this_round none next (among_moves a)
    from_moves (in_a_later_round none next some l a) = in_a_later_round none next some (loads_moves found other same max l) (from_moves a)

    pub asks_moves : {p : Path} → Asks found root keep max p → Asks other root keep max p
    asks_moves (for_the_root a) = for_the_root (among_moves a)
    asks_moves (onward l k a) = onward (loads_moves found other same max l) k (from_moves a)

pub turned : (found other : Sources) → SameAnswers found other → SameAnswers other found
turned found other same p a = ((same p a).1, (same p a).0)

-- ---- the error that tells a refusal

module _ (found : Sources) (root : Path) (asked : List Name) (max : ℕ) where
  -- the root is not found, its text is at fault, or it uses what is not supported yet
  root_not_found : 0 < max → (path m : ModulePath) → path_text path ≡ root → m ≡ path → found root not_found → IsRefusedLoading found root asked max (module_not_found (path_text m))
  root_not_found some path m is same f = rw same (rw is (of_the_root (is_not_found some f)))

  root_faulty : 0 < max → (path m : ModulePath) (e : Error) → path_text path ≡ root → m ≡ path → found root (faulty e) → IsRefusedLoading found root asked max (syntax (path_text m) e)
  root_faulty some path m e is same f = rw same (rw is (of_the_root (is_faulty some f)))

  root_unsupported : 0 < max → (path m : ModulePath) → path_text path ≡ root → m ≡ path → found root unsupported → IsRefusedLoading found root asked max (module_unsupported (path_text m))
  root_unsupported some path m is same f = rw same (rw is (of_the_root (is_unsupported some f)))

  pub root_told : 0 < max → (path : ModulePath) → path_text path ≡ root → (e : ResolveError) → TellsUnit (found root) path (Err e) → RefusesLinking found root asked max (of_resolving e)
  root_told some path is (resolve.ModuleNotFound m) t = (m, refl, root_not_found some path m is t.0 t.1)
  root_told some path is (resolve.Syntax m f) t = (m, refl, root_faulty some path m f is t.0 t.1)
  root_told some path is (resolve.Unsupported m) t = (m, refl, root_unsupported some path m is t.0 t.1)
  root_told some path is (resolve.GaveUp m f) t = tt
  root_told some path is resolve.OutOfMemory t = tt

  -- something behind the root is refused, in what is found after the root was asked for
  behind : (after : Sources) → SameAnswers found after → (unit : Module) → found root (unit_of unit) → (r : LoadError) → IsLoadingResult after root (kept_names asked unit) max (Err r)
      → IsRefusedLoading found root asked max r
  behind after same unit is r c = behind_the_root is (comes_moves after found (turned found after same) max root (kept_names asked unit) c)

  pub loading_told : (after : Sources) → SameAnswers found after → (unit : Module) → found root (unit_of unit) → (e : ImportError)
      → Refuses after root (kept_names asked unit) max (refusal_of e) → RefusesLinking found root asked max (of_loading e)
  loading_told after same unit is (import.TooManyModules m) r = (m, refl, behind after same unit is _ r)
  loading_told after same unit is (import.Resolve (resolve.ModuleNotFound m)) r = (m, refl, behind after same unit is _ r)
  loading_told after same unit is (import.Resolve (resolve.Syntax m f)) r = (m, refl, behind after same unit is _ r)
  loading_told after same unit is (import.Resolve (resolve.Unsupported m)) r = (m, refl, behind after same unit is _ r)
  loading_told after same unit is (import.Resolve (resolve.GaveUp m f)) r = tt
  loading_told after same unit is (import.Resolve resolve.OutOfMemory) r = tt
  loading_told after same unit is (import.DuplicateSymbol m x) r = (m, x, refl, behind after same unit is _ r)
  loading_told after same unit is (import.MissingDecl m x) r = (m, x, refl, behind after same unit is _ r)
  loading_told after same unit is (import.Private m x) r = (m, x, refl, behind after same unit is _ r)
  loading_told after same unit is import.OutOfMemory r = tt

  -- the tables of what is loaded
  pub record AreTables (kept : List Name) (r : Resolutions) : Type 0 where
    pub modules : Modules
    pub loaded : AreLoadedFrom found root asked max kept modules
    pub same : SameModules modules (modules_of r.modules)
    pub is_root : string_bytes r.root ≡ root
    pub resolved : IsResolved r.modules root kept r.held

  pub tables : (after : Sources) → SameAnswers found after → (unit : Module) → found root (unit_of unit) → (r : Resolutions)
      → Resolves after root (kept_names asked unit) max (Ok r) → AreTables (kept_names asked unit) r
  tables after same unit is r t = record {
    modules = t.1.modules;
    loaded = record {
      are_kept = record { unit = unit; found = is; are = refl };
      loaded = comes_moves after found (turned found after same) max root (kept_names asked unit) t.1.loaded;
      named = t.1.named;
    };
    same = t.1.same;
    is_root = t.0;
    resolved = t.1.resolved;
  }

  -- ---- names that clash, and the linked unit

  record_moved : (kept : List Name) (r : Resolutions) → AreTables kept r → IsResolved r.modules (string_bytes r.root) kept r.held
  record_moved kept r t = subst (λ m. IsResolved r.modules m kept r.held) (sym t.is_root) t.resolved

  pub free_of_clashes : (kept : List Name) (r : Resolutions) → AreTables kept r → IsClashFree (modules_of r.modules) (string_bytes r.root) kept → AreTablesOf found root asked max r
  free_of_clashes kept r t free = record {
    kept = kept;
    modules = t.modules;
    loaded = t.loaded;
    clash_free = clash_free_in_any_order (modules_of r.modules) t.modules (same_turned t.modules (modules_of r.modules) t.same) root kept
        (subst (λ m. IsClashFree (modules_of r.modules) m kept) t.is_root free);
    same = t.same;
    is_root = t.is_root;
    resolved = t.resolved;
  }

  pub none_clashes : (kept : List Name) (r : Resolutions) → AreTables kept r → (clash : Option Name) → clash ≡ None
      → ((keep : List Name) → IsResolved r.modules (string_bytes r.root) keep r.held → (clash ≡ None) ↔ IsClashFree (modules_of r.modules) (string_bytes r.root) keep)
      → AreTablesOf found root asked max r
  none_clashes kept r t clash none decides = free_of_clashes kept r t ((decides kept (record_moved kept r t)).0 none)

  pub first_clashes : (kept : List Name) (r : Resolutions) → AreTables kept r → (clash : Option Name) (y : Name) → clash ≡ Some y
      → ((keep : List Name) (name : Name) → IsResolved r.modules (string_bytes r.root) keep r.held → clash ≡ Some name → IsFirstClash (modules_of r.modules) (string_bytes r.root) keep name)
      → IsFirstClashFrom found root asked max y
  first_clashes kept r t clash y some first = record {
    kept = kept;
    modules = t.modules;
    loaded = t.loaded;
    clash = first_clash_in_any_order y (modules_of r.modules) t.modules (same_turned t.modules (modules_of r.modules) t.same) root kept
        (subst (λ m. IsFirstClash (modules_of r.modules) m kept y) t.is_root (first kept y (record_moved kept r t) some));
  }

  pub linked : (r : Resolutions) → AreTablesOf found root asked max r → (unit : Module)
      → ((keep : List Name) → IsResolved r.modules (string_bytes r.root) keep r.held → IsLinked (modules_of r.modules) (string_bytes r.root) keep unit)
      → IsLinkedFrom found root asked max unit
  linked r t unit is_linked = record {
    kept = t.kept;
    are_kept = t.loaded.are_kept;
    modules = t.modules;
    loaded = t.loaded.loaded;
    named = t.loaded.named;
    linked_well = record {
      loaded = loaded_modules found root t.kept max t.modules t.loaded.loaded;
      clash_free = t.clash_free;
      linked = linked_in_any_order unit (modules_of r.modules) t.modules (same_turned t.modules (modules_of r.modules) t.same) root t.kept
          (subst (λ m. IsLinked (modules_of r.modules) m t.kept unit) t.is_root (is_linked t.kept (subst (λ m. IsResolved r.modules m t.kept r.held) (sym t.is_root) t.resolved)));
    };
  }

-- ---- what is loaded was found

module _ (found : Sources) (root : Path) (asked : List Name) (max : ℕ) where
  pub paths_found : (r : Resolutions) → AreTablesOf found root asked max r → AreFound found root (map (λ e. e.1.path) r.modules.entries)
  paths_found r t = (
    (t.loaded.are_kept.unit, t.loaded.are_kept.found),
    λ p among.
        let at = from_contains (map (λ e. e.1.path) r.modules.entries) p among in
        let e = map_get (λ (e : Entry). e.1.path) r.modules.entries at.0 p at.1 in
        let there = to_contains (modules_of r.modules) at.0 (path_and_unit e.0) (get_map path_and_unit r.modules.entries at.0 e.0 e.1) in
        let is : IsModule t.modules (path_text e.0.1.path) (unit_tree e.0.1.unit) = record { path = e.0.1.path; stands = (t.same (path_and_unit e.0)).1 there; printed = refl } in
        subst (λ q. IsFound found (path_text q)) e.2 (unit_tree e.0.1.unit, found_modules found root t.kept max t.modules t.loaded.loaded (path_text e.0.1.path) (unit_tree e.0.1.unit) is),
  )

  -- what the tables tell, they tell of the modules
  names_told : (m : BasicSourceMap) (r : Resolutions) (t : AreTablesOf found root asked max r) → TellsTables r m → TellsHeld t.modules root t.kept (decl_at m)
  names_told m r t told =
      held_told (modules_of r.modules) t.modules t.same root t.kept t.clash_free (decl_at m)
      (subst (λ p. AreTold (modules_of r.modules) p t.kept nothing_told (decl_at m)) t.is_root (told t.kept (subst (λ p. IsResolved r.modules p t.kept r.held) (sym t.is_root) t.resolved)))

  pub linked_and_told : (r : Resolutions) → AreTablesOf found root asked max r → (unit : Module)
      → ((keep : List Name) → IsResolved r.modules (string_bytes r.root) keep r.held → IsLinked (modules_of r.modules) (string_bytes r.root) keep unit)
      → (m : BasicSourceMap) → TellsTables r m → IsToldFrom found root asked max unit m
  unfolding linked
  linked_and_told r t unit is_linked m told = record { from = linked found root asked max r t unit is_linked; decls = names_told m r t told }

  -- the texts that are recorded are those of the loaded modules
  pub texts_mapped : (texts : Texts) (m : BasicSourceMap) (r : Resolutions) → AreTablesOf found root asked max r → HaveTexts texts m (map (λ e. e.1.path) r.modules.entries)
      → HasOnly m (map (λ e. e.1.path) r.modules.entries) → HasDefault texts root m → TellsTables r m → IsMapped found root asked max texts m
  texts_mapped texts m r t each only default told = record {
    kept = t.kept;
    modules = t.modules;
    loaded = t.loaded;
    each = λ a among.
        let at = from_contains (modules_of r.modules) a ((t.same a).0 among) in
        let e = map_get path_and_unit r.modules.entries at.0 a at.1 in
        let there = to_contains (map (λ (e : Entry). e.1.path) r.modules.entries) at.0 e.0.1.path (get_map (λ (e : Entry). e.1.path) r.modules.entries at.0 e.0 e.1) in
        subst (λ (b : ModulePath × Module). HasText texts m b.0) e.2 (each e.0.1.path there);
    only = λ p some.
        let q = only p some in
        let at = from_contains (map (λ (e : Entry). e.1.path) r.modules.entries) q.0 q.1 in
        let e = map_get (λ (e : Entry). e.1.path) r.modules.entries at.0 q.0 at.1 in
        let there = to_contains (modules_of r.modules) at.0 (path_and_unit e.0) (get_map path_and_unit r.modules.entries at.0 e.0 e.1) in
        (unit_tree e.0.1.unit, record { path = e.0.1.path; stands = (t.same (path_and_unit e.0)).1 there; printed = ap path_text e.2 ∙ q.2 });
    default_text = default;
    decls = names_told m r t told;
  }
