-- What the functions that load modules say, in terms of what they are given.
use Rattle.std.specs.Prelude.{ℕ, List, Result, OnOk, string_bytes}
use Rattle.std.specs.declared.string.String.{String}
use Rattle.std.specs.declared.alloc.Global.{Global}
use Rattle.wgsl_path.specs.declared.path.ModulePath.{ModulePath}
use Rattle.wgsl_path.specs.Paths.{path_text}
use Rattle.core_syntax.specs.declared.unit.TranslationUnit.{TranslationUnit}
use Rattle.core_syntax.specs.View.{unit_tree}
use Rattle.wesl_resolve.specs.Found.{Asked, unit_of}
use Rattle.core_link_spec.specs.Occurrences.{Name}
use Rattle.core_link_spec.specs.Modules.{Modules}
use Rattle.core_link_spec.specs.Kept.{kept_names}
use Rattle.core_link_spec.specs.Rounds.{Sources}
use Rattle.core_scopes.specs.Meanings.{Done}
use Rattle.core_scopes.specs.declared.error.ImportError.{ImportError}
use Rattle.core_scopes.specs.declared.module.Module.{Module}
use Rattle.core_reach.specs.declared.rounds.Reached.{Reached}
use Rattle.core_reach.specs.Resolved.{LoadedModules}
use Rattle.core_reach.specs.Stages.{AskedNames}
use Rattle.core_reach.specs.Answers.{Loading}
use Rattle.core_reach.specs.Loading.{IsRoot, AreTabled, AreSought, LoadsAll, IsRoundEnd}
use Rattle.core_reach.specs.Asking.{AsksForAll, IsAskedEnd, AreAskedBehind, AreThoseLoaded}

-- this holds where the unit is what is found at the path
abbrev pub WhereFound : Sources → ModulePath → TranslationUnit → Type 0 → Type 0
WhereFound sources path unit Says = sources (path_text path) (unit_of (unit_tree unit)) → Says

-- the names to keep in a root unit
abbrev pub names_kept : List Name → TranslationUnit → List Name
names_kept keep unit = kept_names keep (unit_tree unit)

-- from a root unit, loading comes to this
abbrev pub LoadsFrom : Sources → ModulePath → List Name → TranslationUnit → ℕ → Result Reached ImportError → Type 0
LoadsFrom sources path keep unit max result = WhereFound sources path unit (Loading sources (path_text path) (names_kept keep unit) max result)

-- from a root unit, no other modules were asked for than loading asks for, and none twice
abbrev pub AsksBehind : Sources → ModulePath → List Name → TranslationUnit → ℕ → Asked → Asked → Type 0
AsksBehind sources path keep unit max before after = WhereFound sources path unit (AreAskedBehind sources (path_text path) (names_kept keep unit) max before after)

-- from a root unit, a result has exactly the modules that were asked for
abbrev pub AsksThoseLoaded : {A E : Type 0} → Sources → ModulePath → List Name → TranslationUnit → ℕ → Asked → Asked → Result A E → Type 0
AsksThoseLoaded sources path keep unit max before after result =
    WhereFound sources path unit (OnOk result (AreThoseLoaded sources (path_text path) (names_kept keep unit) max before after))

-- likewise from the root's module on
abbrev pub RootLoads : Sources → ModulePath → String Global → Module → List Name → ℕ → Result Reached ImportError → Type 0
RootLoads sources path root one keep max result = IsRoot sources max path (string_bytes root) one → Loading sources (string_bytes root) keep max result

abbrev pub RootAsks : Sources → ModulePath → String Global → Module → List Name → ℕ → Asked → Asked → Type 0
RootAsks sources path root one keep max before after = IsRoot sources max path (string_bytes root) one → AreAskedBehind sources (string_bytes root) keep max before after

abbrev pub RootAsksThose : Sources → ModulePath → String Global → Module → List Name → ℕ → Asked → Asked → Result Reached ImportError → Type 0
RootAsksThose sources path root one keep max before after result =
    IsRoot sources max path (string_bytes root) one → OnOk result (AreThoseLoaded sources (string_bytes root) keep max before after)

-- likewise from the end of the root's round on
abbrev pub RoundsLoad : Sources → Reached → List Name → AskedNames → ℕ → Result Reached ImportError → Type 0
RoundsLoad sources reached keep asked max result = IsRoundEnd sources max (string_bytes reached.root) keep reached asked 1 → Loading sources (string_bytes reached.root) keep max result

abbrev pub RoundsAsk : Sources → Reached → List Name → AskedNames → ℕ → Asked → Asked → Type 0
RoundsAsk sources reached keep asked max before after =
    IsAskedEnd sources (string_bytes reached.root) keep max before before reached asked 1 → AreAskedBehind sources (string_bytes reached.root) keep max before after

abbrev pub RoundsAskThose : Sources → Reached → List Name → AskedNames → ℕ → Asked → Asked → Result Reached ImportError → Type 0
RoundsAskThose sources reached keep asked max before after result =
    IsAskedEnd sources (string_bytes reached.root) keep max before before reached asked 1 → OnOk result (AreThoseLoaded sources (string_bytes reached.root) keep max before after)

-- what is asked for and not loaded yet is loaded, and nothing else is asked for
abbrev pub LoadsAsked : Sources → ℕ → LoadedModules → AskedNames → LoadedModules → Result Done ImportError → Type 0
LoadsAsked sources max old asked new result = (listed : Modules) → AreTabled old listed → AreSought old asked → LoadsAll sources max old listed asked new result

abbrev pub AsksAsked : Sources → ℕ → Asked → Asked → LoadedModules → AskedNames → LoadedModules → Result Done ImportError → Type 0
AsksAsked sources max before after old asked new result =
    (listed : Modules) → AreTabled old listed → AreSought old asked → AsksForAll sources max before after old listed asked new result
