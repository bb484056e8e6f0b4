-- Laws of `run`.
use Rattle.std.specs.Prelude.{◌≡◌}
use Rattle.wgsl_declarations.specs.Tree.{UnitTree}
use Rattle.wesl_conditions.specs.declared.features.feature.Features.{Features}
use Rattle.wesl_conditions.specs.Conditions.{Choice, Admits}
use Rattle.wesl_conditions.specs.Trees.{unit_under}

-- Two modules mean the same, under each choice that features admit.
abbrev pub MeanTheSame : Features → UnitTree → UnitTree → Type 0
MeanTheSame features u v = (choice : Choice) → Admits features choice → unit_under choice u ≡ unit_under choice v
