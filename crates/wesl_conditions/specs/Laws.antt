-- Laws of conditions.
use Rattle.std.specs.Prelude.{◌≡◌}
use Rattle.wgsl_expressions.specs.Tree.{Exp}
use Rattle.wesl_conditions.specs.declared.features.feature.Features.{Features}
use Rattle.wesl_conditions.specs.Conditions.{Choice, Admits, holds, simplified}

-- What features leave of a condition is true under the same choices, among those that they admit.
abbrev pub MeaningStays : Type 0
MeaningStays = (features : Features) (choice : Choice) (x : Exp) → Admits features choice → holds choice (simplified features x) ≡ holds choice x
