-- Modules are linked into one unit.
use Rattle.std.specs.Prelude.{◌≡◌, List}
use Rattle.core_syntax.specs.Tree.{UnitTree}
use Rattle.core_link_spec.specs.Occurrences.{Name}
use Rattle.core_link_spec.specs.Modules.{Path, Modules}
use Rattle.core_link_spec.specs.Linked.{IsLinked}
use Rattle.core_link_spec.specs.Loaded.{AreLoaded}

abbrev pub LinkedUnitsAreOne : Type 0
LinkedUnitsAreOne = (modules : Modules) (root : Path) (keep : List Name) (unit other : UnitTree) → AreLoaded modules root keep → IsLinked modules root keep unit
    → IsLinked modules root keep other → unit ≡ other
