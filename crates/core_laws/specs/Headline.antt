-- What linking and compiling give of what is found at the paths of modules: one text that runs as its sources do.
use Rattle.std.specs.Prelude.{◌≡◌, ℕ, List, Ok}
use Rattle.core_syntax.specs.Tree.{UnitTree}
use Rattle.core_texts.specs.Texts.{IsTextOf}
use Rattle.wesl_resolve.specs.Found.{unit_of}
use Rattle.core_link_spec.specs.Occurrences.{Name}
use Rattle.core_link_spec.specs.Modules.{Path, Modules}
use Rattle.core_link_spec.specs.Named.{AreNamedByImports}
use Rattle.core_link_spec.specs.Rounds.{Sources, IsLoadingResult}
use Rattle.core_link_spec.specs.Kept.{kept_names}
use Rattle.core_modules_meaning.specs.Runs.{AreLinkedWell}
use Rattle.core_modules_meaning.specs.Declared.{DeclaresWhatIsHeld}
use Rattle.core_lower.specs.Lowered.{Lowers}
use Rattle.core_lower.specs.Keeps.{AreClear}
use Rattle.core_laws.specs.Compiled.{RunsAsItsSources, RunsExactlyAsItsSources}
use Rattle.core_laws.specs.Declared.{DeclaresHeldFunctions}

-- the names of the root that are kept: those that are asked for, or where none is, the entry points of the unit that is found there
pub record AreKept (sources : Sources) (root : Path) (keep kept : List Name) : Type 0 where
  pub unit : UnitTree
  pub found : sources root (unit_of unit)
  pub are : kept ≡ kept_names keep unit

-- The unit is linked from these sources: loading from the root comes to modules, each but the root under the path by which an import
-- names it; none of their names clashes, and they are linked into it.
pub record IsLinkedFrom (sources : Sources) (root : Path) (keep : List Name) (max : ℕ) (linked : UnitTree) : Type 0 where
  pub kept : List Name
  pub are_kept : AreKept sources root keep kept
  pub modules : Modules
  pub loaded : IsLoadingResult sources root kept max (Ok modules)
  pub named : AreNamedByImports modules root
  pub linked_well : AreLinkedWell modules root kept linked

module _ (modules : Modules) (root : Path) (keep : List Name) where
  -- what the lowered unit keeps of the modules: each run that ends well, and the held functions
  pub record RunsAsSources (linked lowered : UnitTree) : Type 0 where
    pub runs : RunsAsItsSources modules root keep lowered
    pub declares : DeclaresHeldFunctions modules root keep linked lowered

  -- what the linked unit keeps: each run, both ways, and all that is held
  pub record RunsExactlyAsSources (linked : UnitTree) : Type 0 where
    pub runs : RunsExactlyAsItsSources modules root keep linked
    pub declares : DeclaresWhatIsHeld modules root keep linked

module _ (sources : Sources) (root : Path) (keep : List Name) (max : ℕ) where
  -- a text of what is linked from the sources and lowered
  pub record IsCompiledFrom (text : List ℕ) : Type 0 where
    pub linked : UnitTree
    pub from : IsLinkedFrom sources root keep max linked
    pub lowered : UnitTree
    pub steps : ℕ
    pub is_lowered : Lowers steps linked (Ok lowered)
    pub reads : IsTextOf lowered text
    pub keeps : RunsAsSources from.modules root from.kept linked lowered

  -- a text of what is linked from them
  pub record IsLinkedTextFrom (text : List ℕ) : Type 0 where
    pub linked : UnitTree
    pub from : IsLinkedFrom sources root keep max linked
    pub reads : IsTextOf linked text
    pub keeps : RunsExactlyAsSources from.modules root from.kept linked

-- Whatever is found at each path: a text that is read as what is linked and lowered, with clear names, is compiled from its sources.
abbrev pub CompiledTextsAreOfTheirSources : Sources → Type 0
CompiledTextsAreOfTheirSources sources = (root : Path) (keep : List Name) (max : ℕ) (linked lowered : UnitTree) → IsLinkedFrom sources root keep max linked
    → AreClear linked.declarations → (steps : ℕ) → Lowers steps linked (Ok lowered) → (text : List ℕ) → IsTextOf lowered text → IsCompiledFrom sources root keep max text

-- and one that is read as what is linked, is linked from its sources
abbrev pub LinkedTextsAreOfTheirSources : Sources → Type 0
LinkedTextsAreOfTheirSources sources = (root : Path) (keep : List Name) (max : ℕ) (linked : UnitTree) → IsLinkedFrom sources root keep max linked
    → (text : List ℕ) → IsTextOf linked text → IsLinkedTextFrom sources root keep max text
