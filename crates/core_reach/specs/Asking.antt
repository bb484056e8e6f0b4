-- Which modules were asked for while loading went on, by their printed paths.
use Rattle.std.specs.Prelude.{◌≡◌, ◌⊎◌, ℕ, ◌<◌, List, [], ◌∷◌, ◌++◌, length, Result, Ok, Err}
use Rattle.std.specs.List.{Contains}
use Rattle.wesl_resolve.specs.Found.{Asked, HasAsked}
use Rattle.core_link_spec.specs.Occurrences.{Name}
use Rattle.core_link_spec.specs.Modules.{Path, Modules}
use Rattle.core_link_spec.specs.Named.{AreNamedByImports}
use Rattle.core_link_spec.specs.Rounds.{Sources, AreDistinct, IsLoadingResult}
use Rattle.core_link_spec.specs.Asks.{printed_paths, AsksAmong, AsksFrom, Asks}
use Rattle.core_scopes.specs.Meanings.{Done}
use Rattle.core_scopes.specs.declared.error.ImportError.{ImportError}
use Rattle.core_reach.specs.declared.rounds.Reached.{Reached}
use Rattle.core_reach.specs.Resolved.{LoadedModules}
use Rattle.core_reach.specs.Stages.{AskedNames}
use Rattle.core_reach.specs.Loading.{paths_of, AreAllLoaded, IsRoundEnd}

-- one module was asked for, which is not one too many; or nothing was
abbrev pub AsksForOne : Asked → ℕ → ℕ → Path → Asked → Type 0
AsksForOne before n max p after = (after ≡ before) ⊎ ((n < max) × HasAsked before (p ∷ []) after)

module _ (sources : Sources) (max : ℕ) where
  -- of these printed paths, behind those of loaded modules, these were asked for: as loading asks for them, and none twice
  pub record AreAskedAmong (before after : Asked) (modules : Modules) (ps these : List Path) : Type 0 where
    pub has : HasAsked before these after
    pub each : (p : Path) → Contains these p → AsksAmong sources max (length modules) ps p
    pub once : AreDistinct (printed_paths modules) → AreDistinct (printed_paths modules ++ these)

  -- all that is asked for is loaded, and nothing else was asked for
  pub record AreAllAsked (before after : Asked) (old : LoadedModules) (modules : Modules) (asked : AskedNames) (new : LoadedModules) : Type 0 where
    pub loaded : AreAllLoaded sources max old modules asked new
    pub among : AreAskedAmong before after modules (paths_of asked) (printed_paths loaded.more)

  abbrev pub AsksForAll : Asked → Asked → LoadedModules → Modules → AskedNames → LoadedModules → Result Done ImportError → Type 0
  AsksForAll before after old modules asked new (Ok done) = AreAllAsked before after old modules asked new
  AsksForAll before after old modules asked new (Err e) = (these : List Path) × AreAskedAmong before after modules (paths_of asked) these

module _ (sources : Sources) (root : Path) (keep : List Name) (max : ℕ) where
  -- The end of a round: those of the loaded modules behind the root were asked for, and nothing else.
  pub record IsAskedEnd (before now : Asked) (r : Reached) (asked : AskedNames) (n : ℕ) : Type 0 where
    pub end : IsRoundEnd sources max root keep r asked n
    pub behind : List Path
    pub has : HasAsked before behind now
    pub each : (p : Path) → Contains behind p → Asks sources root keep max p
    pub are : printed_paths end.modules ≡ root ∷ behind
    pub once : AreDistinct (printed_paths end.modules)
    pub onward : (p : Path) → AsksFrom sources root keep max end.modules p → Asks sources root keep max p

  -- behind the root, these were asked for: each as loading asks for it, and none twice, nor the root
  pub record AreAskedBehind (before after : Asked) : Type 0 where
    pub behind : List Path
    pub has : HasAsked before behind after
    pub each : (p : Path) → Contains behind p → Asks sources root keep max p
    pub once : AreDistinct (root ∷ behind)

  -- they are those of the loaded modules behind the root, in order
  pub record AreThoseLoaded (before after : Asked) : Type 0 where
    pub modules : Modules
    pub loaded : IsLoadingResult sources root keep max (Ok modules)
    pub named : AreNamedByImports modules root
    pub behind : List Path
    pub are : printed_paths modules ≡ root ∷ behind
    pub has : HasAsked before behind after
