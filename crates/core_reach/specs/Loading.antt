-- The loaded modules as a list and as a table, and what loading more makes of them.
use Rattle.std.specs.Prelude.{◌≡◌, ⊤, ℕ, ◌+◌, ◌<◌, ◌≤◌, ◌⊎◌, List, ◌∷◌, ◌++◌, map, length, Option, Some, None, Result, Ok, Err, string_bytes, if◌then◌else◌}
use Rattle.std.specs.Str.{bytes_eq}
use Rattle.std.specs.String.{string_cmp}
use Rattle.std.specs.BTreeMap.{get_by_text, IsOrdered}
use Rattle.wgsl_path.specs.declared.path.ModulePath.{ModulePath}
use Rattle.wgsl_path.specs.Paths.{path_text}
use Rattle.core_syntax.specs.Tree.{UnitTree}
use Rattle.core_syntax.specs.View.{unit_tree}
use Rattle.wesl_resolve.specs.Found.{unit_of}
use Rattle.core_link_spec.specs.Occurrences.{Name}
use Rattle.core_link_spec.specs.Modules.{Path, Modules, IsModule}
use Rattle.core_link_spec.specs.Rounds.{Sources, LoadError, scope_names, AreDistinct, Loads, LoadsRounds, IsLoadingResult}
use Rattle.core_link_spec.specs.Same.{SameModules}
use Rattle.core_scopes.specs.Meanings.{Done}
use Rattle.core_scopes.specs.declared.error.ImportError.{ImportError}
use Rattle.core_scopes.specs.declared.module.Module.{Module}
use Rattle.core_reach.specs.declared.linking.AskedModule.{AskedModule}
use Rattle.core_reach.specs.declared.rounds.Reached.{Reached}
use Rattle.core_reach.specs.Missing.{refusal_of}
use Rattle.core_reach.specs.Resolved.{LoadedModules, modules_of, IsKeyed}
use Rattle.core_reach.specs.Stages.{AskedNames}
use Rattle.core_reach.specs.Closed.{AreNamedInTable, IsClosed, IsLoadedOn}

-- the table has these modules, each once and under its printed path
pub record AreTabled (ms : LoadedModules) (modules : Modules) : Type 0 where
  pub keyed : IsKeyed ms
  pub ordered : IsOrdered string_cmp ms
  pub same : SameModules modules (modules_of ms)
  pub many : length modules ≡ length ms.entries

-- the printed paths that are asked for, in byte order
abbrev pub paths_of : AskedNames → List Path
paths_of asked = map (λ e. string_bytes e.0) asked.entries

-- each module is asked for under its printed path, and is not loaded
abbrev pub AreSought : LoadedModules → AskedNames → Type 0
AreSought ms asked = (p : Path) (a : AskedModule) → get_by_text asked p ≡ Some a → (path_text a.path ≡ p) × (get_by_text ms p ≡ None)

-- a module was there before, or is there under the path by which it is asked for
abbrev pub IsOldOrAsked : LoadedModules → AskedNames → Path → Module → Type 0
IsOldOrAsked old asked p m = (get_by_text old p ≡ Some m) ⊎ ((a : AskedModule) × (get_by_text asked p ≡ Some a) × (m.path ≡ a.path))

-- a module is in the table under a path, and the others are as they were
pub record IsInsertedAt (old : LoadedModules) (p : Path) (one : Module) (new : LoadedModules) : Type 0 where
  pub stands : (q : Path) → get_by_text new q ≡ (if bytes_eq p q then Some one else get_by_text old q)
  pub many : get_by_text old p ≡ None → length new.entries ≡ length old.entries + 1
  pub ordered : IsOrdered string_cmp new

module _ (sources : Sources) (max : ℕ) where
  -- a module is what is found at the root's path, which prints so, and one module may be loaded
  pub record IsRoot (path : ModulePath) (p : Path) (one : Module) : Type 0 where
    pub within : 0 < max
    pub found : sources p (unit_of (unit_tree one.unit))
    pub distinct : AreDistinct (scope_names (unit_tree one.unit))
    pub named : one.path ≡ path
    pub printed : path_text one.path ≡ p

  -- the refusal of the first of these paths that is refused, where one is told
  abbrev pub RefusesLoading : ℕ → List Path → Option LoadError → Type 0
  RefusesLoading n ps None = ⊤
  RefusesLoading n ps (Some r) = Loads sources max n ps (Err r)

  -- the module that is found at a path, which prints so, is loaded under that path
  pub record IsLoadedOne (old : LoadedModules) (path : ModulePath) (p : Path) (new : LoadedModules) : Type 0 where
    pub one : Module
    pub within : length old.entries < max
    pub found : sources p (unit_of (unit_tree one.unit))
    pub distinct : AreDistinct (scope_names (unit_tree one.unit))
    pub named : one.path ≡ path
    pub printed : path_text one.path ≡ p
    pub stands : (q : Path) → get_by_text new q ≡ (if bytes_eq p q then Some one else get_by_text old q)
    pub many : get_by_text old p ≡ None → length new.entries ≡ length old.entries + 1
    pub ordered : IsOrdered string_cmp new

  abbrev pub LoadsOne : LoadedModules → ModulePath → Path → LoadedModules → Result Done ImportError → Type 0
  LoadsOne old path p new (Ok done) = IsLoadedOne old path p new
  LoadsOne old path p new (Err e) = (ps : List Path) → RefusesLoading (length old.entries) (p ∷ ps) (refusal_of e)

  -- all that is asked for is loaded, and nothing else
  pub record AreAllLoaded (old : LoadedModules) (modules : Modules) (asked : AskedNames) (new : LoadedModules) : Type 0 where
    pub more : Modules
    pub loads : Loads sources max (length modules) (paths_of asked) (Ok more)
    pub tabled : AreTabled new (modules ++ more)
    pub on : IsLoadedOn old asked new
    pub only : (p : Path) (m : Module) → get_by_text new p ≡ Some m → IsOldOrAsked old asked p m

  abbrev pub LoadsAll : LoadedModules → Modules → AskedNames → LoadedModules → Result Done ImportError → Type 0
  LoadsAll old modules asked new (Ok done) = AreAllLoaded old modules asked new
  LoadsAll old modules asked new (Err e) = RefusesLoading (length modules) (paths_of asked) (refusal_of e)

  -- The end of a round: at least so many modules are loaded, the root among them, the others as imports name them; what it leads
  -- to in them is held, and what comes of them is what loading comes to.
  pub record IsRoundEnd (root : Path) (keep : List Name) (r : Reached) (asked : AskedNames) (n : ℕ) : Type 0 where
    pub modules : Modules
    pub tabled : AreTabled r.modules modules
    pub unit : UnitTree
    pub rooted : IsModule modules root unit
    pub closed : IsClosed r.modules root keep r.held asked
    pub named : AreNamedInTable r.modules root
    pub many : n ≤ length modules
    pub goes : (o : Result Modules LoadError) → LoadsRounds sources root keep max modules o → IsLoadingResult sources root keep max o
