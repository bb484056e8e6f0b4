-- Where faults are.
use Rattle.std.specs.Prelude.{List}
use Rattle.std.specs.List.{Contains}
use Rattle.core_syntax.specs.Tree.{UnitTree}
use Rattle.core_validate.specs.declared.error.ValidateFault.{ValidateFault}
use Rattle.core_validate.specs.Scopes.{Name, names}
use Rattle.core_validate.specs.Faults.{IsFirstFault}

-- the declaration that a unit's fault names is one that the unit declares
abbrev pub FaultsAreInDeclarations : Type 0
FaultsAreInDeclarations = (unit : UnitTree) (table : List Name) (f : ValidateFault) → IsFirstFault unit table f → Contains (names unit) f.declaration
