-- What linking answers.
use Rattle.std.specs.Prelude.{◌≡◌, ℕ, List, Result, Ok, Err, string_bytes}
use Rattle.wgsl_path.specs.declared.path.ModulePath.{ModulePath}
use Rattle.wgsl_path.specs.Paths.{path_text}
use Rattle.core_syntax.specs.declared.unit.TranslationUnit.{TranslationUnit}
use Rattle.core_link_spec.specs.Occurrences.{Name}
use Rattle.core_link_spec.specs.Modules.{Path}
use Rattle.core_link_spec.specs.Rounds.{Sources}
use Rattle.core_scopes.specs.declared.error.ImportError.{ImportError}
use Rattle.core_reach.specs.Missing.{refusal_of}
use Rattle.core_reach.specs.Answers.{AreLoadedTables, Refuses}
use Rattle.core_reach.specs.LoadingClauses.{WhereFound, names_kept}
use Rattle.core_link.specs.declared.rounds.Resolutions.{Resolutions}

module _ (sources : Sources) (root : Path) (keep : List Name) (max : ℕ) where
  -- memory aside, the tables of the modules that loading comes to, or the refusal that it comes to
  abbrev pub Resolves : Result Resolutions ImportError → Type 0
  Resolves (Ok r) = (string_bytes r.root ≡ root) × AreLoadedTables sources root keep max r.modules r.held
  Resolves (Err e) = Refuses sources root keep max (refusal_of e)

-- from a root unit, linking comes to this
abbrev pub ResolvesFrom : Sources → ModulePath → List Name → TranslationUnit → ℕ → Result Resolutions ImportError → Type 0
ResolvesFrom sources path keep unit max result = WhereFound sources path unit (Resolves sources (path_text path) (names_kept keep unit) max result)
