-- Laws of modules and their conditions.
use Rattle.std.specs.Prelude.{◌≡◌, None}
use Rattle.wgsl_declarations.specs.Tree.{UnitTree}
use Rattle.wesl_conditions.specs.declared.features.feature.Features.{Features}
use Rattle.wesl_conditions.specs.Conditions.{Choice, Admits}
use Rattle.wesl_conditions.specs.Trees.{unit_under, unit_left}
use Rattle.wesl_conditions.specs.Faults.{unit_fault}

-- What features leave of a module means the same, under each choice that they admit.
abbrev pub MeaningStays : Type 0
MeaningStays = (features : Features) (choice : Choice) (u : UnitTree) → Admits features choice → unit_under choice (unit_left features u) ≡ unit_under choice u

-- What features leave of a module they leave unchanged.
abbrev pub TwiceIsOnce : Type 0
TwiceIsOnce = (features : Features) (u : UnitTree) → unit_left features (unit_left features u) ≡ unit_left features u

-- What features leave of a module without error has none.
abbrev pub NoFaultIsMade : Type 0
NoFaultIsMade = (features : Features) (u : UnitTree) → unit_fault features u ≡ None → unit_fault features (unit_left features u) ≡ None
