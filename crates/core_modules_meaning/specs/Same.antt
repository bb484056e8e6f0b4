-- What holds of modules doesn't depend on the order of their list.
use Rattle.std.specs.Prelude.{List}
use Rattle.core_syntax.specs.Tree.{UnitTree}
use Rattle.core_link_spec.specs.Occurrences.{Name}
use Rattle.core_link_spec.specs.Modules.{Path, Modules}
use Rattle.core_link_spec.specs.Rounds.{LoadError, IsNextRound, NoneRefused, IsFirstRefused}
use Rattle.core_link_spec.specs.Linked.{IsLinked}
use Rattle.core_link_spec.specs.Loaded.{AreLoaded, IsClashFree}
use Rattle.core_link_spec.specs.Clashing.{IsFirstClash}
use Rattle.core_link_spec.specs.Same.{SameModules}
use Rattle.core_modules_meaning.specs.Runs.{AreLinkedWell}

-- what is true of some modules is true of a list with the same elements, for each root and whatever is kept
abbrev pub InAnyOrder : (Modules → Path → List Name → Type 0) → Type 0
InAnyOrder P = (one other : Modules) → SameModules one other → (root : Path) (keep : List Name) → P one root keep → P other root keep

-- so it is with modules that are loaded, whose names don't clash, and that are linked into a unit
abbrev pub LoadedInAnyOrder : Type 0
LoadedInAnyOrder = InAnyOrder AreLoaded

abbrev pub ClashFreeInAnyOrder : Type 0
ClashFreeInAnyOrder = InAnyOrder IsClashFree

abbrev pub LinkedInAnyOrder : Type 0
LinkedInAnyOrder = (unit : UnitTree) → InAnyOrder (λ modules root keep. IsLinked modules root keep unit)

abbrev pub LinkedWellInAnyOrder : Type 0
LinkedWellInAnyOrder = (unit : UnitTree) → InAnyOrder (λ modules root keep. AreLinkedWell modules root keep unit)

-- and with refusals: the first clash, the first occurrence that denotes nothing or that there is none, what is asked for next
abbrev pub FirstClashInAnyOrder : Type 0
FirstClashInAnyOrder = (y : Name) → InAnyOrder (λ modules root keep. IsFirstClash modules root keep y)

abbrev pub FirstRefusedInAnyOrder : Type 0
FirstRefusedInAnyOrder = (r : LoadError) → InAnyOrder (λ modules root keep. IsFirstRefused modules root keep r)

abbrev pub NoneRefusedInAnyOrder : Type 0
NoneRefusedInAnyOrder = InAnyOrder NoneRefused

abbrev pub NextRoundInAnyOrder : Type 0
NextRoundInAnyOrder = (ps : List Path) → InAnyOrder (λ modules root keep. IsNextRound modules root keep ps)

pub record OrderOfModulesDoesNotCount : Type 0 where
  pub loaded : LoadedInAnyOrder
  pub clash_free : ClashFreeInAnyOrder
  pub linked : LinkedInAnyOrder
  pub linked_well : LinkedWellInAnyOrder
  pub first_clash : FirstClashInAnyOrder
  pub first_refused : FirstRefusedInAnyOrder
  pub none_refused : NoneRefusedInAnyOrder
  pub next_round : NextRoundInAnyOrder
