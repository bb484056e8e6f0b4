-- What holds of runs of linked modules.
use Rattle.std.specs.Prelude.{ℕ, List, Ok}
use Rattle.core_syntax.specs.Tree.{UnitTree}
use Rattle.wesl_resolve.specs.Found.{unit_of}
use Rattle.core_link_spec.specs.Occurrences.{Name}
use Rattle.core_link_spec.specs.Modules.{Path, Modules, IsModule}
use Rattle.core_link_spec.specs.Rounds.{Sources, IsLoadingResult}
use Rattle.core_link_spec.specs.Linked.{IsLinked}
use Rattle.core_link_spec.specs.Loaded.{AreLoaded, IsClashFree}

-- modules, a unit and a program: the modules are loaded, none of their names clashes, and they are linked into the unit
pub record AreLinkedWell (modules : Modules) (root : Path) (keep : List Name) (unit : UnitTree) : Type 0 where
  pub loaded : AreLoaded modules root keep
  pub clash_free : IsClashFree modules root keep
  pub linked : IsLinked modules root keep unit

-- each module's unit is what is found at its path
abbrev pub AreFound : Sources → Modules → Type 0
AreFound found modules = (m : Path) (u : UnitTree) → IsModule modules m u → found m (unit_of u)

-- What loading comes to is loaded, and is what is found, whatever that is at each path.
abbrev pub WhatIsLoaded : Sources → Type 0
WhatIsLoaded found = (root : Path) (keep : List Name) (max : ℕ) (modules : Modules) → IsLoadingResult found root keep max (Ok modules)
    → AreLoaded modules root keep × AreFound found modules
