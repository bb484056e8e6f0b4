-- What loading answers.
use Rattle.std.specs.Prelude.{◌≡◌, ⊤, ℕ, List, Option, Some, None, Result, Ok, Err, string_bytes}
use Rattle.core_link_spec.specs.Occurrences.{Name}
use Rattle.core_link_spec.specs.Modules.{Path, Modules}
use Rattle.core_link_spec.specs.Named.{AreNamedByImports}
use Rattle.core_link_spec.specs.Rounds.{Sources, LoadError, IsLoadingResult}
use Rattle.core_link_spec.specs.Same.{SameModules}
use Rattle.core_scopes.specs.declared.error.ImportError.{ImportError}
use Rattle.core_reach.specs.declared.rounds.Reached.{Reached}
use Rattle.core_reach.specs.Missing.{refusal_of}
use Rattle.core_reach.specs.Resolved.{LoadedModules, modules_of, IsResolved}
use Rattle.core_reach.specs.Closing.{HeldNames}

module _ (sources : Sources) (root : Path) (keep : List Name) (max : ℕ) where
  -- the tables of the modules that loading comes to
  pub record AreLoadedTables (ms : LoadedModules) (held : HeldNames) : Type 0 where
    pub resolved : IsResolved ms root keep held
    pub modules : Modules
    pub loaded : IsLoadingResult sources root keep max (Ok modules)
    pub same : SameModules modules (modules_of ms)
    pub named : AreNamedByImports modules root

  -- the refusal that loading comes to, where one is told
  abbrev pub Refuses : Option LoadError → Type 0
  Refuses None = ⊤
  Refuses (Some r) = IsLoadingResult sources root keep max (Err r)

  -- memory aside
  abbrev pub Loading : Result Reached ImportError → Type 0
  Loading (Ok r) = (string_bytes r.root ≡ root) × AreLoadedTables r.modules r.held
  Loading (Err e) = Refuses (refusal_of e)
